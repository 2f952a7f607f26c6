-- What a station holds, as the facts beside its fields say it. Assumes nothing.
use Rattle.std.proofs.Common.{◌≡◌, ℕ, suc, ◌-◌, ◌<◌, ◌≤◌, Bool, true, false, ◌&&◌, ltb, List, [], ◌∷◌, length, get_or, take, is_some, Some, None, Option, sym, refl, ap, ◌∙◌, ap₂, arith}
use mathlib.Core.Bool.{Bool-set}
use mathlib.Core.Logic.{∥∥₁_elim}
use Rattle.std.proofs.lemmas.List.FromFn.{get_or-map-range_with_len}
use Rattle.std.proofs.lemmas.List.{length-map, length-take-le}
use Rattle.std.proofs.lemmas.Bool.{true≢false}
use Rattle.board.specs.Sets.{any}
use Rattle.board.proofs.Places.{some_same}
use Rattle.model.specs.Accepted.{early, tallies, tally}
use Rattle.model.specs.Calls.{opened}
use Rattle.model.specs.declared.entry.Entry.{Entry}
use Rattle.model.specs.Following.{count_of, counts_exceed}
use Rattle.model.specs.Sound.{Sound}
use Rattle.model.specs.States.{State, known}
use Rattle.model.proofs.Timely.{early-told}
use Rattle.wire.specs.declared.message.Message.{Message}
use Rattle.station.specs.Memory.{settings_of, state_of}
use Rattle.station.specs.declared.lent.Lent.{Lent}
use Rattle.station.specs.Standing.{state_of_station}
use Rattle.station.specs.declared.station.Station.{Station}

-- sixteen zeros are the tallies of no messages
pub tallies-none : 0 ∷ 0 ∷ 0 ∷ 0 ∷ 0 ∷ 0 ∷ 0 ∷ 0 ∷ 0 ∷ 0 ∷ 0 ∷ 0 ∷ 0 ∷ 0 ∷ 0 ∷ 0 ∷ [] ≡ tallies []
unfolding tallies tally
tallies-none = refl

-- two lists that hold nothing yet are an opened state's
pub opened_told :
    (n own : ℕ) (table : Lent Message) (roll : Lent Entry) → table.used ≡ 0 → roll.used ≡ 0
    → state_of n own table.places.now table.used roll.places.now roll.used 0
    ≡ opened (settings_of n own table.places.now roll.places.now)
opened_told n own table roll none empty =
    ap₂ (λ used rolled. state_of n own table.places.now used roll.places.now rolled 0) none empty

-- a kept count is the tally of its station
pub count-told :
    (numbers : List ℕ) (messages : List Message) (place : ℕ) → numbers ≡ tallies messages → place < 16
    → get_or numbers place 0 ≡ tally messages (suc place)
unfolding tallies
count-told numbers messages place told below =
    ap (λ counts. get_or counts place 0) told
    ∙ get_or-map-range_with_len (λ k. tally messages (suc k)) 0 16 place place 0 below (omega arith)

-- a message is early where one of its counts is above the tally
pub early-held :
    (state : State) (message : Message) → ∥ Sound state ∥₁
    → any (λ place. ltb (tally state.accepted (suc place)) (count_of message (suc place))) ≡ early (known state) message
early-held state message sound =
    ∥∥₁_elim sound (Bool-set _ _) (λ s. early-told state.accepted message s.kept.gapless)

-- the kept counts are those tallies
pub counts-early :
    (station : Station) (message : Message)
    → counts_exceed message.after station.accepted
    ≡ any (λ place. ltb (tally (state_of_station station).accepted (suc place)) (count_of message (suc place)))
counts-early station message =
    some_same (λ place. ltb (get_or station.accepted place 0) (get_or message.after place 0))
    (λ place. ltb (tally (state_of_station station).accepted (suc place)) (count_of message (suc place))) 16
    (λ place below.
    ap (λ count. ltb count (get_or message.after place 0))
    (count-told station.accepted (state_of_station station).accepted place station.accepted_told below))

-- as many messages are accepted as places are used
pub used-told : (station : Station) → length (state_of_station station).accepted ≡ station.table.used
used-told station =
    length-map (take station.table.used station.table.places.now) (λ place. place.content)
    ∙ length-take-le station.table.used station.table.places.now station.table.fits

-- where no message is found, there is none
pub none_from : (found : Option Message) → is_some found ≡ false → found ≡ None
none_from None e = refl
none_from (Some message) e = absurd (true≢false e)

-- the count of a station of 1 to 16
pub count_of_station :
    (station : Station) (number : ℕ) → 1 ≤ number → number ≤ 16
    → get_or station.accepted (number - 1) 0 ≡ tally (state_of_station station).accepted number
count_of_station station number first last =
    count-told station.accepted (state_of_station station).accepted (number - 1) station.accepted_told (omega arith)
    ∙ ap (tally (state_of_station station).accepted) back
  where
    back : suc (number - 1) ≡ number
    back = omega arith

-- a test after two that hold
pub both_hold : (one two three : Bool) → one ≡ true → two ≡ true → three ≡ (one && (two && three))
both_hold true true three a b = refl
both_hold true false three a b = absurd (true≢false (sym b))
both_hold false two three a b = absurd (true≢false (sym a))
