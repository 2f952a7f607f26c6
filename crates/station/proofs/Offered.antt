-- What a call does, and what an offer answers. Assumes nothing.
use Rattle.std.proofs.Common.{◌≡◌, ℕ, List, Result, sym, ap, ◌∙◌, subst}
use Rattle.model.specs.Calls.{Outcome, offer_of}
use Rattle.model.specs.Meanings.{OfferAnswers}
use Rattle.model.specs.States.{State}
use Rattle.model.proofs.AnswerLaws.{offer_answers}
use Rattle.wire.specs.declared.fault.Fault.{Fault}
use Rattle.station.specs.Standing.{Does, state_of_station}
use Rattle.station.specs.declared.station.Station.{Station}

-- a call does what its definition says, if it does so in the state that the station stands for
pub does :
    {Answer : Type 0} (before after : Station) (call : State → Outcome Answer) (answer : Result Answer Fault)
    → answer ≡ (call (state_of_station before)).answer → state_of_station after ≡ (call (state_of_station before)).next
    → Does before after call answer
does before after call answer told left =
    record {
      answers = λ state stands. told ∙ ap (λ s. (call s).answer) stands;
      leaves = λ state stands. left ∙ ap (λ s. (call s).next) stands;
    }

-- the answers of offer come exactly when they should
pub answers-told :
    (station : Station) (block : List ℕ) (r : Result (Unit {0}) Fault) → r ≡ (offer_of (state_of_station station) block).answer
    → OfferAnswers (state_of_station station) block r
answers-told station block r told =
    subst (OfferAnswers (state_of_station station) block) (sym told) (offer_answers (state_of_station station) block)
