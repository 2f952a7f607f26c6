-- The refusals, by number and by word. Assumes nothing.
use Rattle.std.specs.Prelude.{ℕ, List, codes}
use Rattle.wire.specs.declared.fault.Fault.{Fault}
use Rattle.wire.specs.declared.fault.Fault.TheVariants.{Length, Check, Layout, Repeat, Clash, Early, Crossed, Full, NothingReady, NothingToPost, NoSuchPlace, Setting, NoBoard}

abbrev pub numbered : Fault → ℕ
numbered Length = 1
numbered Check = 2
numbered Layout = 3
numbered Repeat = 4
numbered Clash = 5
numbered Early = 6
numbered Crossed = 7
numbered Full = 8
numbered NothingReady = 9
numbered NothingToPost = 10
numbered NoSuchPlace = 11
numbered Setting = 12
numbered NoBoard = 13

-- the bytes of the word for people
abbrev pub worded : Fault → List ℕ
worded Length = codes "length"
worded Check = codes "check"
worded Layout = codes "layout"
worded Repeat = codes "repeat"
worded Clash = codes "clash"
worded Early = codes "early"
worded Crossed = codes "crossed"
worded Full = codes "full"
worded NothingReady = codes "nothing ready"
worded NothingToPost = codes "nothing to post"
worded NoSuchPlace = codes "no such place"
worded Setting = codes "setting"
worded NoBoard = codes "no board"
