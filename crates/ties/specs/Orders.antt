-- The three tie orders, by their formulas. Assumes nothing.
use Rattle.std.specs.Prelude.{ℕ, ◌+◌, ◌-◌, ◌%◌, cond, ◌&&◌, ◌||◌, Ok, Err, Result, ◌==◌, nat_le, nat_lt}
use Rattle.wire.specs.declared.fault.Fault.{Fault}
use Rattle.ties.specs.declared.orders.OrderBy.{OrderBy}
use Rattle.ties.specs.Ties.{TieMeaning}
pub use Rattle.ties.specs.Ties.{asked}

-- the lower station
abbrev pub station_order : ℕ → TieMeaning
station_order n = record { n = n; before = λ wave a b. asked n wave a b && nat_lt a.station b.station }

-- the station at which a wave starts
abbrev pub start : ℕ → ℕ → ℕ
start n wave = (wave - 1) % n + 1

-- how far a station lies past that one, going up and putting 1 after n
abbrev pub turn : ℕ → ℕ → ℕ → ℕ
turn n first station = cond (nat_le first station) (station - first) (station + n - first)

-- the nearer to the start of the wave
abbrev pub turn_order : ℕ → TieMeaning
turn_order n =
    record {
      n = n;
      before = λ wave a b.
          asked n wave a b && nat_lt (turn n (start n wave) a.station) (turn n (start n wave) b.station);
    }

-- the lower class, then the lower station
abbrev pub class_order : ℕ → TieMeaning
class_order n =
    record {
      n = n;
      before = λ wave a b.
          asked n wave a b
          && (nat_lt a.class b.class || (a.class == b.class && nat_lt a.station b.station));
    }

-- an order that was made, by the size it is for
abbrev pub order_of : {Key : Type 0} → Result (OrderBy Key) Fault → Result ℕ Fault
order_of (Ok order) = Ok order.size.n
order_of (Err fault) = Err fault
