use Rattle.std.proofs.Common.{drop, ap, ◌∙◌, arith}
use Rattle.wire.specs.Format.{block_of, checked_part, reading}
use Rattle.wire.proofs.Fields.{length_checked}
use Rattle.wire.proofs.Filled.{filled_reads}
use Rattle.wire.proofs.Seals.{sealed_is}
use Rattle.wire.proofs.Verdicts.{fits-block}
use Rattle.wire.proofs.reading.Reading.write.Goals as goal

pub returns : goal.returns
unfolding block_of
returns c =
    let n = c.args.self.now.n in
    let message = c.args.self.now.message in
    let note = c.args.self.now.note.now in
    let short = (fits-block n message note c.requires).short in
    let sealed =
    sealed_is c.lay_out.new.block c.seal.new.block (checked_part n message note) (drop 508 c.args.block.now)
    (length_checked n message note (omega arith) (omega arith) short) c.lay_out.ensures c.seal.ensures.memory in
    record {
      memory = sealed.0;
      reads =
          ap reading sealed.0
          ∙ filled_reads n message note (omega arith, omega arith) c.requires (omega (arith, sealed.1, c.seal.ensures.small));
    }
