use Rattle.std.proofs.Common.{◌≡◌, suc, ◌+◌, false, Some, Err, Ok, sym, ap, ◌∙◌, subst, add-one, rules}
use Rattle.std.specs.Result.{result_ok}
use Rattle.std.specs.Option.{ok_or}
use Rattle.std.proofs.lemmas.Result.{err_from_is_err_and}
use Rattle.wire.specs.declared.fault.Fault.TheVariants.{NothingReady}
use Rattle.model.specs.Arrays.{heads_by_station}
use Rattle.model.specs.Calls.{as_entries, next_wave, settled_wave, wave_from}
use Rattle.model.specs.Heads.{board_at, head}
use Rattle.model.specs.States.{is_shut, known, released}
use Rattle.station.specs.Standing.{AreHeads, state_of_station, wave_told}
use Rattle.station.proofs.Boarded.{decided-by, wave-same, waves_small}
use Rattle.station.proofs.station.Station.decide.Goals as goal

pub overflow_add-self : goal.overflow_add-self
overflow_add-self g c =
    let live = subst (λ s. is_shut (state_of_station s) ≡ false) c.in_ok-open.ensures.same c.in_ok-open.«open».live in
    let small = waves_small c.args.self.now live in
    search rules

pub returns-in_err-sources-clause-wave : goal.returns-in_err-sources-clause-wave
returns-in_err-sources-clause-wave g c =
    let state = state_of_station c.args.self.now in
    let same = c.in_ok-open.ensures.same in
    let none = c.ok_or.ensures.ok_part ∙ ap result_ok c.in_err-sources.was in
    let refused = err_from_is_err_and c.from_residual-in_err-sources.result c.from_residual-in_err-sources.ensures.1 in
    let told = sym c.in_err-sources.was ∙ c.ok_or.ensures.value ∙ ap (λ o. ok_or o NothingReady) none in
    let fault : c.in_err-sources.field-0.0 ≡ NothingReady = cc told in
    ap (wave_told (next_wave state)) (refused.1 ∙ ap Err (refused.2 ∙ fault))
    ∙ sym (decided-by state (g.R.Rule.means c.args.rule.now) (g.T.TieOrder.means c.args.order.now) c.board.result
    (subst (λ s. is_shut (state_of_station s) ≡ false) same c.in_ok-open.«open».live)
    (sym c.stations.ensures ∙ c.if-stations-self.false)
    (sym c.stations-else-stations-self.ensures ∙ c.if-stations-self-2.false)
    (subst (λ s. board_at s.n (known (state_of_station s)) (released (state_of_station s)) ≡ Ok c.board.result) same c.board.ensures)
    ∙ ap (settled_wave state (g.T.TieOrder.means c.args.order.now)) (sym c.settle.ensures ∙ none))

pub returns : goal.returns
returns g c =
    let state = state_of_station c.args.self.now in
    let rule = g.R.Rule.means c.args.rule.now in
    let order = g.T.TieOrder.means c.args.order.now in
    let same = c.in_ok-open.ensures.same in
    let live = subst (λ s. is_shut (state_of_station s) ≡ false) same c.in_ok-open.«open».live in
    let heads = subst (λ s. AreHeads s c.heads-heads.result) same c.heads-heads.ensures in
    let board_is =
    subst (λ s. board_at s.n (known (state_of_station s)) (released (state_of_station s)) ≡ Ok c.board.result) same c.board.ensures in
    let order_n = sym c.stations-else-stations-self.ensures ∙ c.if-stations-self-2.false in
    let settled = sym c.settle.ensures ∙ c.ok_or.ensures.ok_part ∙ ap result_ok c.in_ok-sources.was in
    let number = add-one c.args.self.now.waves ∙ ap suc c.args.self.now.waves_told in
    let entries =
    ap (as_entries (next_wave state)) (c.wave_of.ensures.messages
    ∙ wave-same order (c.args.self.now.waves + 1) (next_wave state) (heads_by_station c.heads-heads.result)
    (head (known state) (released state)) c.in_ok-sources.sources number heads) in
    record {
      wave =
          ap Ok entries
          ∙ sym (decided-by state rule order c.board.result live (sym c.stations.ensures ∙ c.if-stations-self.false) order_n board_is
          ∙ ap (settled_wave state order) settled);
      sized = c.wave_of.ensures.sized;
      may =
          record {
            live = live;
            rule = rule;
            lawful = g.met.R.Rule.lawful c.args.rule.now;
            order = order;
            orderly = g.met.T.TieOrder.lawful c.args.order.now;
            order_n = order_n;
            board = c.board.result;
            board_is = board_is;
            answer = settled ∙ ap Some (sym c.wave_of.ensures.sources);
            wave_is = entries ∙ ap (wave_from state order) (sym c.wave_of.ensures.sources);
          };
    }
