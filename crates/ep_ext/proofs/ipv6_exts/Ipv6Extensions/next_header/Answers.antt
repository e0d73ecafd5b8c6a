use Rattle.std.proofs.Common.{◌≡◌, [], ◌∷◌, ◌++◌, None, sym, ap, ◌∙◌}
use Rattle.std.specs.Option.{option_map}
use Rattle.ep_ext.specs.Ipv6Chains.{RefusesWalk, number_of, extensions_of}
use Rattle.ep_ext.specs.Walks.{header_ref_part, header_at}
use Rattle.ep_ext.proofs.WalkLemmas.{walk_more, walk_fewer, walk_end, left_is, one_walk_end, walks_not_refused}
use Rattle.ep_ext.proofs.ipv6_exts.Ipv6Extensions.next_header.Goals as goal

pub loop-header-smaller : goal.loop-header-smaller
loop-header-smaller c =
    walk_fewer c.args.self.now c.args.first.0 c.loop-header.invariant.parts c.loop-header.number.0 c.loop-header.marks
    (header_ref_part c.in-Some.header) _
    c.loop-header.invariant.by c.in-Some.ensures c.mark.ensures

pub loop-header-preserved : goal.loop-header-preserved
loop-header-preserved c = record {
  parts = c.loop-header.invariant.parts ++ header_ref_part c.in-Some.header ∷ [];
  by = walk_more c.args.self.now c.args.first.0 c.loop-header.invariant.parts c.loop-header.number.0
      c.loop-header.marks (header_ref_part c.in-Some.header) _ _
      c.loop-header.invariant.by c.in-Some.ensures c.next_header-number.ensures c.mark.ensures;
}

pub returns-in-None-clause-ok : goal.returns-in-None-clause-ok
returns-in-None-clause-ok c =
    let e = c.args.self.now in
    let inv = c.loop-header.invariant in
    let none : None ≡ header_at e c.loop-header.marks c.loop-header.number.0 = sym (ap
    (option_map header_ref_part) c.in_default.is) ∙ c.find_unvisited.ensures in
    let left = left_is e inv.by.taken (extensions_of inv.parts) c.loop-header.marks inv.by.is_marked
    ∙ sym c.first_unvisited.ensures ∙ ap (option_map number_of) c.in-None.is in
    (inv.parts, (walk_end e c.args.first.0 inv.parts c.loop-header.number.0 c.loop-header.marks inv.by none, left))

pub returns-in-None-clause-only : goal.returns-in-None-clause-only
returns-in-None-clause-only c =
    let e = c.args.self.now in
    let inv = c.loop-header.invariant in
    let none : None ≡ header_at e c.loop-header.marks c.loop-header.number.0 = sym (ap
    (option_map header_ref_part) c.in_default.is) ∙ c.find_unvisited.ensures in
    let left = left_is e inv.by.taken (extensions_of inv.parts) c.loop-header.marks inv.by.is_marked
    ∙ sym c.first_unvisited.ensures ∙ ap (option_map number_of) c.in-None.is in
    λ parts last walks. one_walk_end e c.args.first.0 inv.parts parts c.loop-header.number.0 last
    (walk_end e c.args.first.0 inv.parts c.loop-header.number.0 c.loop-header.marks inv.by none, left) walks

pub returns-in-Some-first_unvisited-clause-err : goal.returns-in-Some-first_unvisited-clause-err
returns-in-Some-first_unvisited-clause-err c =
    let e = c.args.self.now in
    let inv = c.loop-header.invariant in
    let none : None ≡ header_at e c.loop-header.marks c.loop-header.number.0 = sym (ap
    (option_map header_ref_part) c.in_default.is) ∙ c.find_unvisited.ensures in
    let left = left_is e inv.by.taken (extensions_of inv.parts) c.loop-header.marks inv.by.is_marked
    ∙ sym c.first_unvisited.ensures ∙ ap (option_map number_of) c.in-Some-first_unvisited.is in (
      inv.parts,
      c.loop-header.number.0,
      c.in-Some-first_unvisited.missing_ext.0,
      walk_end e c.args.first.0 inv.parts c.loop-header.number.0 c.loop-header.marks inv.by none,
      left,
      c.walk_error.ensures,
    )

pub returns-in-Some-first_unvisited-clause-only : goal.returns-in-Some-first_unvisited-clause-only
returns-in-Some-first_unvisited-clause-only c =
    let e = c.args.self.now in
    let inv = c.loop-header.invariant in
    let none : None ≡ header_at e c.loop-header.marks c.loop-header.number.0 = sym (ap
    (option_map header_ref_part) c.in_default.is) ∙ c.find_unvisited.ensures in
    let left = left_is e inv.by.taken (extensions_of inv.parts) c.loop-header.marks inv.by.is_marked
    ∙ sym c.first_unvisited.ensures ∙ ap (option_map number_of) c.in-Some-first_unvisited.is in
    let refused : RefusesWalk e c.args.first.0 c.walk_error.result = (
      inv.parts,
      c.loop-header.number.0,
      c.in-Some-first_unvisited.missing_ext.0,
      walk_end e c.args.first.0 inv.parts c.loop-header.number.0 c.loop-header.marks inv.by none,
      left,
      c.walk_error.ensures,
    ) in
    λ parts last walks. walks_not_refused e c.args.first.0 parts last c.walk_error.result walks refused
