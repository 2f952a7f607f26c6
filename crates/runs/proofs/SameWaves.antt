-- Two stations of one group with equal rolls that settle put the same wave on them. Assumes nothing.
use Rattle.std.proofs.Common.{◌≡◌, ℕ, suc, ◌≤◌, true, List, [], ◌∷◌, Some, Ok, sym, refl, ap, ◌∙◌, subst, ap₂, inl, inr, arith}
use Rattle.std.proofs.lemmas.Bool.{true≢false}
use Rattle.board.proofs.Facts.{group-last}
use Rattle.board.specs.Rules.{RuleMeaning}
use Rattle.board.specs.Rules as rules
use Rattle.board.specs.Sets.{has}
use Rattle.board.specs.declared.board.Board.{Board}
use Rattle.ties.specs.Ties.{Member, TieMeaning}
use Rattle.ties.specs.Ties as ties
use Rattle.wire.specs.declared.message.Message.{Message}
use Rattle.model.specs.declared.entry.Entry.{Entry}
use Rattle.model.specs.Accepted.{Accepted, accepted_as, tally}
use Rattle.model.specs.Calls.{as_entries, wave_from}
use Rattle.model.specs.Following.{Alike}
use Rattle.model.specs.Heads.{Released, board_at, head}
use Rattle.model.specs.Sound.{Orderly, Sound}
use Rattle.model.specs.States.{State, known, last_wave, on_roll, released}
use Rattle.model.specs.Waves.{Ascending, BeforeAll, IsWave, On, as_head, goes_before, wave_of}
use Rattle.model.proofs.Formed.{formed}
use Rattle.model.proofs.Pushed.{found-is}
use Rattle.model.proofs.Views.{Agree, same_heads, same-sources, sets_of, source_head, source_member}
use Rattle.model.proofs.WaveLaws.{waves_are_one}
use Rattle.runs.specs.Groups.{SameOrder, SameRule}
use Rattle.runs.proofs.Reached.{Settled}

-- Messages that are alike.

-- under one station and number they are one message
pub one-message :
    (message other : Message) → message.station ≡ other.station → message.number ≡ other.number
    → Alike message other → message ≡ other
one-message message other station number alike =
    λ i. record {
      station = station i;
      number = number i;
      after = alike.after i;
      class = alike.class i;
      order = alike.order i;
    }

-- messages of two lists under one station and number are alike
abbrev pub AlikeIn : List Message → List Message → Type 0
AlikeIn messages others =
    (message message' : Message) → On message messages → On message' others
    → message.station ≡ message'.station → message.number ≡ message'.number → Alike message message'

-- so the views of the two lists agree
pub agree-from :
    (messages others : List Message) → AlikeIn messages others → Agree (accepted_as messages) (accepted_as others)
agree-from messages others alike station number message message' e e' =
    let found = found-is messages station number message e in
    let found' = found-is others station number message' e' in
    let station_is = found.station_is ∙ sym found'.station_is in
    let number_is = found.number_is ∙ sym found'.number_is in
    one-message message message' station_is number_is
    (alike message message' found.listed found'.listed station_is number_is)

-- Tie orders with the same answers.

-- a message of the group, with a class that there is
record Fit (n : ℕ) (message : Message) : Type 0 where
  member : Member n (as_head message)
  class : message.class ≤ 3

-- a list of such messages that ascends in one ascends in the other
module _
    (n wave : ℕ) (order order' : TieMeaning) (lawful : ties.Lawful order) (same : SameOrder n order order')
    (from_one : 1 ≤ wave) where
  before_same :
      (message other : Message) → Fit n message → Fit n other → goes_before order wave message other ≡ true
      → goes_before order' wave message other ≡ true
  before_same message other own theirs before =
      sym (same wave (as_head message) (as_head other) from_one own.member theirs.member
      (λ one. true≢false (sym before ∙ lawful.not_itself wave (as_head message) (as_head other) one))
      own.class theirs.class)
      ∙ before

  before_all_same :
      (message : Message) (messages : List Message) → Fit n message → ((other : Message) → On other messages → Fit n other)
      → BeforeAll order wave message messages → BeforeAll order' wave message messages
  before_all_same message [] own each before = tt
  before_all_same message (first ∷ rest) own each before = (
    before_same message first own (each first (inl refl)) before.0,
    before_all_same message rest own (λ other on. each other (inr on)) before.1,
  )

  ascending_same :
      (messages : List Message) → ((message : Message) → On message messages → Fit n message)
      → Ascending order wave messages → Ascending order' wave messages
  ascending_same [] each ascending = tt
  ascending_same (first ∷ rest) each ascending = (
    before_all_same first rest (each first (inl refl)) (λ other on. each other (inr on)) ascending.0,
    ascending_same rest (λ message on. each message (inr on)) ascending.1,
  )

-- The wave of one view's settled board.

module _
    (n wave : ℕ) (accepted : Accepted) (released-of : Released) (orderly : Orderly n accepted)
    (rule : RuleMeaning) (lawful : rules.Lawful rule) (order : TieMeaning) (tied : ties.Lawful order)
    (order_n : order.n ≡ n) (from_one : 1 ≤ wave) (board : Board) (made : board_at n accepted released-of ≡ Ok board)
    (sources : ℕ) (settled : rule.answer board ≡ Some sources) where
  -- it is the wave of the sources' heads, and no other list is
  wave_is :
      IsWave order wave (head accepted released-of) sources (wave_of order wave (head accepted released-of) sources)
      × ((messages : List Message) → IsWave order wave (head accepted released-of) sources messages
      → messages ≡ wave_of order wave (head accepted released-of) sources)
  wave_is =
      waves_are_one order wave (head accepted released-of) sources tied small from_one
      (λ station message e. (orderly.named station (suc (released-of station)) message e).0)
      (λ place source.
      let below = source_member n accepted released-of rule board sources place lawful made settled source in
      omega (arith, order_n, below))
    where
      small : order.n ≤ 16
      small =
          let size = (sets_of n accepted released-of board made).n_is in
          let last = group-last board in
          omega (arith, size, last, order_n)

  -- some message is on it
  pub some_on : (message : Message) × On message (wave_of order wave (head accepted released-of) sources)
  some_on =
      let source = lawful.some_source board sources settled in
      let found = source_head n accepted released-of rule board sources source.0 lawful made settled source.1 in
      (found.0, wave_is.0.all_heads found.0 (source.0, source.1, found.1))

  -- what is on it is of the group, with a class that there is
  wave_fit : (message : Message) → On message (wave_of order wave (head accepted released-of) sources) → Fit n message
  wave_fit message on =
      let found = wave_is.0.only_heads message on in
      let well = orderly.well (suc found.0) (suc (released-of (suc found.0))) message found.2 in
      let fit = formed n message well in
      record { member = (fit.from_one, fit.member); class = fit.class }

-- Two views, one released, and settled boards.

module _
    (n wave : ℕ) (accepted other : Accepted) (released-of : Released)
    (orderly : Orderly n accepted) (theirs : Orderly n other) (agree : Agree accepted other)
    (rule rule' : RuleMeaning) (lawful : rules.Lawful rule) (lawful' : rules.Lawful rule')
    (same_rule : SameRule n rule rule')
    (order order' : TieMeaning) (tied : ties.Lawful order) (tied' : ties.Lawful order')
    (same_order : SameOrder n order order')
    (order_n : order.n ≡ n) (order-n' : order'.n ≡ n) (from_one : 1 ≤ wave) (board board' : Board)
    (made : board_at n accepted released-of ≡ Ok board) (made' : board_at n other released-of ≡ Ok board') where
  -- with one set of sources
  one_wave :
      (sources : ℕ) → rule.answer board ≡ Some sources → rule'.answer board' ≡ Some sources
      → wave_of order wave (head accepted released-of) sources ≡ wave_of order' wave (head other released-of) sources
  one_wave sources settled settled' =
      let own =
      wave_is n wave accepted released-of orderly rule lawful order tied order_n from_one board made sources settled in
      (wave_is n wave other released-of theirs rule' lawful' order' tied' order-n' from_one board' made' sources settled').1
      (wave_of order wave (head accepted released-of) sources)
      (record {
        only_heads =
            λ message on.
            let found = own.0.only_heads message on in
            (found.0, found.1, sym (heads_same found.0 found.1) ∙ found.2);
        all_heads =
            λ message source.
            own.0.all_heads message (source.0, source.1, heads_same source.0 source.1 ∙ source.2);
        ascending =
            ascending_same n wave order order' tied same_order from_one
            (wave_of order wave (head accepted released-of) sources)
            (wave_fit n wave accepted released-of orderly rule lawful order tied order_n from_one board made sources settled)
            own.0.ascending;
      })
    where
      heads_same :
          (place : ℕ) → has sources place ≡ true
          → head accepted released-of (suc place) ≡ head other released-of (suc place)
      heads_same place source =
          same_heads n accepted other released-of rule rule' board board' sources place agree lawful lawful' made made'
          settled settled' source

  waves_same :
      (sources sources' : ℕ) → rule.answer board ≡ Some sources → rule'.answer board' ≡ Some sources'
      → wave_of order wave (head accepted released-of) sources ≡ wave_of order' wave (head other released-of) sources'
  waves_same sources sources' settled settled' =
      let same =
      same-sources n accepted other released-of rule rule' board board' sources sources' orderly theirs agree lawful
      same_rule made made' settled settled' in
      one_wave sources settled (settled' ∙ ap Some (sym same))
      ∙ ap (wave_of order' wave (head other released-of)) same

-- Two stations.

pub same-wave :
    (state other : State) (rule rule' : RuleMeaning) (order order' : TieMeaning) (sources sources' : ℕ)
    → Sound state → Sound other → state.settings.n ≡ other.settings.n → state.roll ≡ other.roll
    → AlikeIn state.accepted other.accepted
    → rules.Lawful rule → rules.Lawful rule' → SameRule state.settings.n rule rule'
    → ties.Lawful order → ties.Lawful order' → SameOrder state.settings.n order order'
    → Settled state rule order sources → Settled other rule' order' sources'
    → wave_from state order sources ≡ wave_from other order' sources'
same-wave state other rule rule' order order' sources sources' sound sound' same_n same-roll alike lawful lawful' same_rule tied tied' same_order settled settled' =
    ap (as_entries (suc (last_wave state.roll)))
    (waves_same state.settings.n (suc (last_wave state.roll)) (known state) (known other) (released state)
    sound.kept.orderly (subst (λ n. Orderly n (known other)) (sym same_n) sound'.kept.orderly)
    (agree-from state.accepted other.accepted alike)
    rule rule' lawful lawful' same_rule order order' tied tied' same_order
    settled.order_n (settled'.order_n ∙ sym same_n) (omega arith)
    settled.board settled'.board settled.board_is
    (ap₂ (λ (n : ℕ) (roll : List Entry). board_at n (known other) (tally (on_roll roll))) same_n same-roll
    ∙ settled'.board_is)
    sources sources' settled.answer settled'.answer)
    ∙ ap (λ (roll : List Entry).
    as_entries (suc (last_wave roll))
    (wave_of order' (suc (last_wave roll)) (head (known other) (tally (on_roll roll))) sources')) same-roll

-- A wave that was put on the roll is not empty.
pub some-entry :
    (state : State) (rule : RuleMeaning) (order : TieMeaning) (sources : ℕ)
    → Sound state → rules.Lawful rule → ties.Lawful order → Settled state rule order sources
    → (message : Message)
    × On message (wave_of order (suc (last_wave state.roll)) (head (known state) (released state)) sources)
some-entry state rule order sources sound lawful tied settled =
    some_on state.settings.n (suc (last_wave state.roll)) (known state) (released state) sound.kept.orderly
    rule lawful order tied settled.order_n (omega arith) settled.board settled.board_is sources settled.answer
