use Rattle.std.proofs.Common.{◌≡◌, cond, length, get_or, take, true, false, Some, None, sym, refl, ap, ◌∙◌, ap₂, arith, rules}
use Rattle.board.specs.Sets.{has}
use Rattle.model.specs.Arrays.{heads_by_station}
use Rattle.model.specs.Waves.{put_in}
use Rattle.model.proofs.Ranked.{heads_all, heads_more, heads_none, no_head, no_source}
use Rattle.model.proofs.ranking.wave_of.Goals as goal
use Rattle.model.proofs.ranking.wave_of.Goals.{then-holds+in-Some, else-holds, else-holds-via-then-holds+in-None-1, else-holds-via-else-holds}

pub loop-place-init : goal.loop-place-init
loop-place-init g c =
    (heads_none (g.T.TieOrder.means c.args.order.now) c.args.wave (heads_by_station c.args.heads.now) c.args.sources, omega arith, refl)

pub loop-place-preserved : goal.loop-place-preserved
loop-place-preserved g c =
    elim c.if-holds.branch [
      | then-holds+in-Some w ↦
          let source : has c.args.sources c.loop-place.place ≡ true = cc in
          let head : get_or c.args.heads.now c.loop-place.place None ≡ Some w.in-Some.head = search rules in (
            ap₂ take w.count-is w.messages-is ∙ w.put_at_its_place.ensures.put
                ∙ ap (put_in (g.T.TieOrder.means c.args.order.now) c.args.wave w.in-Some.head) c.loop-place.invariant.0
                ∙ heads_more (g.T.TieOrder.means c.args.order.now) c.args.wave c.args.heads.now c.args.sources c.loop-place.place
                w.in-Some.head (sym (ap₂ (λ b h. cond b h None) source head)),
            omega (arith, w.count-is, c.loop-place.invariant.1),
            ap length w.messages-is ∙ w.put_at_its_place.ensures.places,
          )
      | else-holds w ↦
          let same = ap₂ take w.count-is w.messages-is in
          elim w.else-holds.branch [
            | else-holds-via-then-holds+in-None-1 w' ↦
                let none : get_or c.args.heads.now c.loop-place.place None ≡ None = search rules in (
                  no_head (g.T.TieOrder.means c.args.order.now) c.args.wave c.args.heads.now c.args.sources c.loop-place.place
                      (take c.loop-place.count c.loop-place.messages) _ none c.loop-place.invariant.0 same,
                  omega (arith, w.count-is, c.loop-place.invariant.1),
                  ap length w.messages-is ∙ c.loop-place.invariant.2,
                )
            | else-holds-via-else-holds w' ↦
                let other : has c.args.sources c.loop-place.place ≡ false = cc in (
                  no_source (g.T.TieOrder.means c.args.order.now) c.args.wave c.args.heads.now c.args.sources c.loop-place.place
                      (take c.loop-place.count c.loop-place.messages) _ other c.loop-place.invariant.0 same,
                  omega (arith, w.count-is, c.loop-place.invariant.1),
                  ap length w.messages-is ∙ c.loop-place.invariant.2,
                )
          ]
    ]

pub returns : goal.returns
returns g c =
    record {
      messages =
          heads_all (g.T.TieOrder.means c.args.order.now) c.args.wave c.args.heads.now c.args.sources c.loop-place.place
          (take c.loop-place.count c.loop-place.messages) c.loop-place.invariant.0 (omega arith);
      sources = refl;
      sized = record { few = omega (arith, c.loop-place.invariant.1); places = c.loop-place.invariant.2 };
    }
