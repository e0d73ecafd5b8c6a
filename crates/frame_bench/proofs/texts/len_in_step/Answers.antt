use Rattle.std.proofs.Common.{eqb, sym, ap, ◌∙◌, arith, w8}
use lib.Count.{count_trailing_zeros}
use Rattle.std.specs.Simd.Lanes.{chunk}
use Rattle.std.proofs.lemmas.Simd.{length-chunk, bitmask_splat, leading_from_mask_l, trailing_mask_l}
use Rattle.frame_bench.proofs.texts.len_in_step.Goals as goal

pub returns-then-found-eq0 : goal.returns-then-found-eq0
returns-then-found-eq0 c =
    let bytes = chunk c.args.start 16 c.args.text.now in
    let long = length-chunk c.args.start 16 c.args.text.now c.requires in
    let found = bitmask_splat w8 eqb bytes 16 c.args.mark long (omega arith) in
    sym (leading_from_mask_l (λ byte. eqb byte c.args.mark) bytes (sym found ∙ c.if-found-eq0.true) ∙ long)

pub returns-else-found-eq0 : goal.returns-else-found-eq0
returns-else-found-eq0 c =
    let bytes = chunk c.args.start 16 c.args.text.now in
    let long = length-chunk c.args.start 16 c.args.text.now c.requires in
    let found = bitmask_splat w8 eqb bytes 16 c.args.mark long (omega arith) in
    ap (count_trailing_zeros 64) found
    ∙ trailing_mask_l (λ byte. eqb byte c.args.mark) 64 bytes (omega arith) (omega arith)
