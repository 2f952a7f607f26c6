-- The wave of a settled board: the heads of the sources in tie order. Assumes nothing.
use Rattle.std.specs.Prelude.{◌≡◌, ℕ, zero, suc, Bool, true, false, cond, ◌⊎◌, List, [], ◌∷◌, Some, None, Option}
use Rattle.board.specs.Sets.{has}
use Rattle.ties.specs.Ties.{TieMeaning}
use Rattle.wire.specs.declared.message.Message.{Message}
-- a message as a tie order sees it
pub use Rattle.ties.specs.Ties.{as_head}

-- the first message goes before the second in a wave
abbrev pub goes_before : TieMeaning → ℕ → Message → Message → Bool
goes_before order wave message other = order.before wave (as_head message) (as_head other)

-- What the wave is.

-- the head of each station, if it has one
abbrev pub HeadsOf : Type 0
HeadsOf = ℕ → Option Message

-- a message is on a list
abbrev pub On : Message → List Message → Type 0
On message [] = ⊥
On message (first ∷ rest) = (message ≡ first) ⊎ On message rest

-- a message goes before every message of a list
abbrev pub BeforeAll : TieMeaning → ℕ → Message → List Message → Type 0
BeforeAll order wave message [] = Unit {0}
BeforeAll order wave message (first ∷ rest) =
    (goes_before order wave message first ≡ true) × BeforeAll order wave message rest

-- every message of a list goes before all that stand after it
abbrev pub Ascending : TieMeaning → ℕ → List Message → Type 0
Ascending order wave [] = Unit {0}
Ascending order wave (first ∷ rest) = BeforeAll order wave first rest × Ascending order wave rest

-- a message is the head of a source
abbrev pub HeadOfSource : HeadsOf → ℕ → Message → Type 0
HeadOfSource heads sources message =
    (place : ℕ) × (has sources place ≡ true) × (heads (suc place) ≡ Some message)

-- a list is the wave: on it are the heads of the sources and nothing else, and it ascends in the tie order
pub record IsWave (order : TieMeaning) (wave : ℕ) (heads : HeadsOf) (sources : ℕ) (messages : List Message) : Type 0 where
  pub only_heads : (message : Message) → On message messages → HeadOfSource heads sources message
  pub all_heads : (message : Message) → HeadOfSource heads sources message → On message messages
  pub ascending : Ascending order wave messages

-- The wave as a list that can be computed: the heads of the sources, each put before the first that it goes
-- before.

-- a message, if there is one and it is asked for, in front of a list
abbrev pub add_head : Bool → Option Message → List Message → List Message
add_head true (Some message) messages = message ∷ messages
add_head true None messages = messages
add_head false head messages = messages

-- the heads of the sources at places below a bound
unfoldable pub heads_below : HeadsOf → ℕ → ℕ → List Message
heads_below heads sources zero = []
heads_below heads sources (suc place) = add_head (has sources place) (heads (suc place)) (heads_below heads sources place)

unfoldable pub put_in : TieMeaning → ℕ → Message → List Message → List Message
put_in order wave message [] = message ∷ []
put_in order wave message (first ∷ rest) =
    cond (goes_before order wave message first) (message ∷ first ∷ rest) (first ∷ put_in order wave message rest)

unfoldable pub in_order : TieMeaning → ℕ → List Message → List Message
in_order order wave [] = []
in_order order wave (first ∷ rest) = put_in order wave first (in_order order wave rest)

unfoldable pub wave_of : TieMeaning → ℕ → HeadsOf → ℕ → List Message
wave_of order wave heads sources = in_order order wave (heads_below heads sources 16)
