use Rattle.std.proofs.Common.{refl}
use Rattle.station.proofs.Boarded.{board_told, group_told, sets_hold}
use Rattle.station.proofs.station.open.Open.board.Goals as goal

pub invariant_of-result : goal.invariant_of-result
invariant_of-result c = record {
  group = group_told c.args.self.now.station.now c.args.self.now.live;
  holds =
      sets_hold c.args.self.now.station.now c.args.heads.now c.requires c.present.result c.voter_sets.result c.present.ensures
      c.voter_sets.ensures;
}

pub returns : goal.returns
returns c =
    board_told c.args.self.now.station.now c.args.heads.now c.requires _ refl c.present.ensures c.voter_sets.ensures
