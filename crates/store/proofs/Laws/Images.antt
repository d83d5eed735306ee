-- A state has one image in bytes.
-- Assumes nothing.
use Rattle.hall.proofs.Laws.Halls.{sound_sizes}
use Rattle.hall.proofs.Laws.Sound as halls
use Rattle.hall_sound.proofs.Laws.Whole as whole
use Rattle.desk.proofs.Laws.Layout as layout
use Rattle.desk.proofs.Laws.Sound as desks
use Rattle.bridge.proofs.Laws.Kept.{counter_low}
use Rattle.store.specs.Images.{HallPut, HallImage, HallPast, ZerosUnsound, HallSmall, DeskPut, DeskImage, DeskPast, DeskZeros, DeskSmall}

pub hall_put : HallPut
hall_put m h s l = (halls.put_sound m h s l, halls.hall_read m h s)

pub hall_image : HallImage
hall_image = halls.same_bytes

pub hall_past : HallPast
hall_past = whole.sound_past

pub zeros_unsound : ZerosUnsound
zeros_unsound = halls.zeros_unsound

pub hall_small : HallSmall
hall_small = halls.needed_small

pub desk_put : DeskPut
desk_put h m ds g s l =
    let few = (sound_sizes h g).desks.1 in
    let low = counter_low h g in
    (desks.put_sound h m ds few low s l, layout.desks_get m ds (desks.sound_room h ds s few low))

pub desk_image : DeskImage
desk_image = desks.same_bytes

pub desk_past : DeskPast
desk_past = desks.sound_past

pub desk_zeros : DeskZeros
desk_zeros h n g = let z = (sound_sizes h g).desks in desks.zeros_unsound h n z.0 z.1

pub desk_small : DeskSmall
desk_small = layout.needed_small
