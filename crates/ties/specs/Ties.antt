-- What a tie order means, and the laws it keeps. Assumes nothing.
use Rattle.std.specs.Prelude.{◌≡◌, ℕ, ◌≤◌, Bool, true, false, not, ◌&&◌, ◌==◌, nat_le}
use Rattle.wire.specs.declared.message.Message.{Message}
use Rattle.ties.specs.declared.tie.Head.{Head}

-- a message as a tie order sees it
abbrev pub as_head : Message → Head
as_head message = record { station = message.station; class = message.class }

-- the size of its group, and whether one head goes before another in a wave
pub record TieMeaning : Type 0 where
  pub n : ℕ
  pub before : ℕ → Head → Head → Bool

-- a head of a station of the group
abbrev pub Member : ℕ → Head → Type 0
Member n head = (1 ≤ head.station) × (head.station ≤ n)

-- heads of different stations
abbrev pub Apart : Head → Head → Type 0
Apart a b = a.station ≡ b.station → ⊥

-- what gets an answer other than no: a wave from 1, and two different stations of the group
abbrev pub asked : ℕ → ℕ → Head → Head → Bool
asked n wave a b =
    nat_le 1 wave && (nat_le 1 a.station && (nat_le a.station n && (nat_le 1 b.station && (nat_le b.station n
    && not (a.station == b.station)))))

pub record Lawful (order : TieMeaning) : Type 0 where
  -- of two heads of different stations of the group, in a wave from 1, exactly one goes first
  pub one_first :
      (wave : ℕ) (a b : Head) → 1 ≤ wave → Member order.n a → Member order.n b → Apart a b
      → order.before wave b a ≡ not (order.before wave a b)
  -- a before b and b before c give a before c
  pub passed_on :
      (wave : ℕ) (a b c : Head) → 1 ≤ wave
      → Member order.n a → Member order.n b → Member order.n c → Apart a b → Apart b c → Apart a c
      → order.before wave a b ≡ true → order.before wave b c ≡ true → order.before wave a c ≡ true
  -- no for wave 0, for a station with itself, and for a station outside the group
  pub no_wave : (a b : Head) → order.before 0 a b ≡ false
  pub not_itself : (wave : ℕ) (a b : Head) → a.station ≡ b.station → order.before wave a b ≡ false
  pub no_stranger_first : (wave : ℕ) (a b : Head) → (Member order.n a → ⊥) → order.before wave a b ≡ false
  pub no_stranger_second : (wave : ℕ) (a b : Head) → (Member order.n b → ⊥) → order.before wave a b ≡ false
