use Rattle.std.proofs.Common.{◌⊎◌, ◌-◌, ◌<◌, [], drop, length, inl, inr, arith}
use Rattle.ep_base.proofs.LaxSliceLemmas.{slice_cut, slice_complete}
use Rattle.ep_base.proofs.lax_cut.limit_by_length_field.Goals as goal
use Rattle.ep_base.proofs.lax_cut.limit_by_length_field.Goals.{then-stated-least-via-then-stated-least, then-stated-least-via-else-stated-least+then-slice-stated}

pub returns-then-stated-least : goal.returns-then-stated-least
returns-then-stated-least c =
    let bytes = c.args.slice.now in
    let stated = c.args.field.stated in
    let least = c.args.field.least in
    let why : (stated < least) ⊎ (length bytes < stated) = elim c.then-stated-least.branch [
      | then-stated-least-via-then-stated-least w ↦ inl w.if-stated-least.true
      | then-stated-least-via-else-stated-least+then-slice-stated w ↦ inr w.if-slice-stated.true
    ] in
    ([], slice_complete least stated c.args.field.source c.args.outer c.args.header_len bytes c.requires.header why)

pub returns : goal.returns
returns c =
    let bytes = c.args.slice.now in
    let n = c.args.header_len in
    let stated = c.args.field.stated in (
      drop (stated - n) (drop n bytes),
      slice_cut c.args.field.least stated c.args.field.source c.args.outer n bytes c.requires.least (omega arith)
          (omega arith),
    )
