use Rattle.std.proofs.Common.{Ok, Err, length, sym, ap, ◌∙◌}
use Rattle.std.proofs.lemmas.Result.{err_from_is_err_and}
use Rattle.model.specs.Calls.{next_wave, outcome, release_of}
use Rattle.model.specs.States.{releasing}
use Rattle.station.specs.Standing.{state_of_station}
use Rattle.station.proofs.Appended.{wave_long}
use Rattle.station.proofs.Offered.{does}
use Rattle.station.proofs.Settled.{release_answered}
use Rattle.station.proofs.station.Station.release.Goals as goal

pub returns-in_err-wave-clause-outcome : goal.returns-in_err-wave-clause-outcome
returns-in_err-wave-clause-outcome g c =
    let refused = err_from_is_err_and c.from_residual.result c.from_residual.ensures.1 in
    let state = state_of_station c.args.self.now in
    does c.args.self.now c.args.self.now
    (λ state. release_of state (g.R.Rule.means c.args.rule.now) (g.T.TieOrder.means c.args.order.now)) c.from_residual.result
    (refused.1 ∙ ap Err refused.2
    ∙ ap (λ decided. (outcome state decided length (releasing state)).answer) c.in_err-wave.ensures.wave)
    (ap (λ decided. (outcome state decided length (releasing state)).next) c.in_err-wave.ensures.wave)

pub returns-in_err-wave-clause-answers : goal.returns-in_err-wave-clause-answers
returns-in_err-wave-clause-answers g c =
    let refused = err_from_is_err_and c.from_residual.result c.from_residual.ensures.1 in
    let state = state_of_station c.args.self.now in
    release_answered c.args.self.now (g.R.Rule.means c.args.rule.now) (g.T.TieOrder.means c.args.order.now) c.from_residual.result
    (refused.1 ∙ ap Err refused.2
    ∙ ap (λ decided. (outcome state decided length (releasing state)).answer) c.in_err-wave.ensures.wave)

pub returns-clause-outcome : goal.returns-clause-outcome
returns-clause-outcome g c =
    let state = state_of_station c.args.self.now in
    let long =
    wave_long c.args.self.now c.in_ok-wave.wave c.in_ok-wave.ensures.may (next_wave state) c.in_ok-wave.ensures.sized.few
    c.in_ok-wave.ensures.sized.places in
    does c.args.self.now c.append.new.self
    (λ state. release_of state (g.R.Rule.means c.args.rule.now) (g.T.TieOrder.means c.args.order.now)) (Ok c.in_ok-wave.wave.count)
    (ap Ok (sym long)
    ∙ ap (λ decided. (outcome state decided length (releasing state)).answer) c.in_ok-wave.ensures.wave)
    (c.append.ensures.next ∙ ap (λ decided. (outcome state decided length (releasing state)).next) c.in_ok-wave.ensures.wave)

pub returns-clause-answers : goal.returns-clause-answers
returns-clause-answers g c =
    let state = state_of_station c.args.self.now in
    let long =
    wave_long c.args.self.now c.in_ok-wave.wave c.in_ok-wave.ensures.may (next_wave state) c.in_ok-wave.ensures.sized.few
    c.in_ok-wave.ensures.sized.places in
    release_answered c.args.self.now (g.R.Rule.means c.args.rule.now) (g.T.TieOrder.means c.args.order.now) (Ok c.in_ok-wave.wave.count)
    (ap Ok (sym long)
    ∙ ap (λ decided. (outcome state decided length (releasing state)).answer) c.in_ok-wave.ensures.wave)
