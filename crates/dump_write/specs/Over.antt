-- Bytes written over the front of an output.
use Rattle.std.specs.Prelude.{ℕ, ◌≡◌, length}
use Rattle.model.specs.Bytes.{Bytes}
use Rattle.memory.specs.Spans.{overlay}

-- a writer that turned the output `before` into `after` and answered n wrote bs
pub record Wrote (bs before after : Bytes) (n : ℕ) : Type 0 where
  pub count : n ≡ length bs
  pub bytes : after ≡ overlay bs before
