use Rattle.std.proofs.Common.{◌≡◌, ◌+◌, map, take}
use Rattle.model.specs.Calls.{as_entries}
use Rattle.station.specs.Memory.{holding, overwritten}
use Rattle.station.proofs.station.releasing.put_entries.Given as goal

-- the entries so far are put
abbrev pub invariant-loop-message : goal.invariant-loop-message
invariant-loop-message l =
    record {
      places :
          l.roll.places.now
          ≡ overwritten l.initial.roll.places.now l.initial.roll.used (map holding (as_entries l.wave (take l.message-index l.messages)));
      used : l.roll.used ≡ l.initial.roll.used + l.message-index;
      lent : l.roll.places.ghost_name ≡ l.initial.roll.places.ghost_name;
    }
