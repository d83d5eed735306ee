pub mod SplitMix
