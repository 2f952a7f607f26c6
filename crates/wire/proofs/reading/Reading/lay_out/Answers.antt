use Rattle.std.proofs.Common.{◌≡◌, ◌-◌, [], length, map, replicate, ap, ◌∙◌, arith, rules}
use borrow.Author.Tests.{tests}
use Rattle.std.specs.List.{flat_map}
use Rattle.std.proofs.lemmas.List.Folds.{flat_map-map}
use Rattle.wire.specs.Format.{checked_part}
use Rattle.wire.specs.Words.{in_two}
use Rattle.wire.proofs.Arrays.{mapped_is}
use Rattle.wire.proofs.Fields.{length_twos}
use Rattle.wire.proofs.Laid.{fields_laid, spare_room}
use Rattle.wire.proofs.reading.Reading.lay_out.Goals as goal

pub returns : goal.returns
unfolding checked_part
returns c =
    let message = c.args.self.now.message in
    let note = c.args.self.now.note.now in
    let n = c.args.self.now.n in
    let old = c.args.block.now in
    let number : c.copy_from_slice.new.self ≡ in_two message.number = c.copy_from_slice.ensures.after ∙ c.to_le_bytes.ensures in
    let mapped : c.map-counts.result ≡ map in_two message.after =
    mapped_is in_two 16 0 [] (omega arith) c.map-counts.ensures.items (λ x y q call. search (rules, tests)) in
    let counts : c.copy_from_slice-2.new.self ≡ flat_map in_two message.after =
    c.copy_from_slice-2.ensures.after ∙ c.as_flattened.ensures.value ∙ ap (flat_map (λ x. x)) mapped
    ∙ flat_map-map (λ x. x) in_two message.after in
    let order : c.copy_from_slice-3.new.self ≡ message.order = c.copy_from_slice-3.ensures.after in
    let text : c.copy_from_slice-4.new.self ≡ note = c.copy_from_slice-4.ensures.after in
    let two : length c.copy_from_slice.new.self ≡ 2 = ap length number in
    let thirty_two : length c.copy_from_slice-2.new.self ≡ 32 = ap length counts ∙ length_twos message.after ∙ omega arith in
    let eight : length c.copy_from_slice-3.new.self ≡ 8 = ap length order ∙ omega arith in
    let long : length c.copy_from_slice-4.new.self ≡ length note = ap length text in
    let spare : c.fill.new.self ≡ replicate (461 - length note) 0 =
    c.fill.ensures.after (λ y same. same)
    ∙ ap (λ k. replicate k 0)
    (spare_room old c.copy_from_slice.new.self c.copy_from_slice-2.new.self c.copy_from_slice-3.new.self
    c.copy_from_slice-4.new.self n message.station message.class (length note) (omega arith) two thirty_two eight long c.requires) in
    fields_laid old c.copy_from_slice.new.self c.copy_from_slice-2.new.self c.copy_from_slice-3.new.self
    c.copy_from_slice-4.new.self n message.station message.class (length note) (omega arith) two thirty_two eight long c.requires
    c.fill.new.self
    ∙ rw (number, counts, order, text, spare)
