use Rattle.std.proofs.Common.{◌≡◌, ℕ, List, ◌++◌, length, take, ap, ◌∙◌, arith}
use borrow.Rule.Slice.PartMut.{put_mid}
use Rattle.std.proofs.lemmas.List.{append-nil, drop_all, drop-drop}
use Rattle.wire.specs.Words.{in_four}
use Rattle.wire.proofs.filling.seal.Goals as goal

-- four bytes written at the end of a block
ends :
    (block last : List ℕ) → length block ≡ 512 → put_mid 508 4 block last ≡ take 508 block ++ last
ends block last long =
    ap (λ rest. take 508 block ++ (last ++ rest)) (drop-drop 4 508 block ∙ drop_all 512 block (omega arith))
    ∙ ap (λ end. take 508 block ++ end) (append-nil last)

pub returns-clause-memory : goal.returns-clause-memory
returns-clause-memory c =
    ends c.args.block.now c.copy_from_slice.new.self (omega arith)
    ∙ ap (λ last. take 508 c.args.block.now ++ last)
    (c.copy_from_slice.ensures.after ∙ c.to_le_bytes-sum.ensures ∙ ap in_four c.sum.ensures)
