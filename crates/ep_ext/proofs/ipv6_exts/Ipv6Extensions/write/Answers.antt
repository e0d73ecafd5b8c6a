use Rattle.std.proofs.lemmas.Grind.{common_steps}
use Rattle.std.proofs.Common.{◌≡◌, ◌+◌, suc, List, [], ◌∷◌, ◌++◌, length, length-append, vec_len, vec_capacity, None, Err, refl, sym, ap, subst, ◌∙◌, arith}
use Rattle.std.proofs.lemmas.List.{append-nil}
use Rattle.std.specs.Option.{option_map}
use Rattle.std.specs.Prelude.{is_err}
use Rattle.ep_base.specs.declared.err.ipv6_exts.HeaderWriteError.TheVariants as write_error
use Rattle.ep_ext.specs.ExtensionParts.{ExtensionPart, part_bytes, part_next}
use Rattle.ep_ext.specs.Chains.{parts_bytes}
use Rattle.ep_ext.specs.Ipv6Chains.{RefusesWalk, missing_number, extensions_of, ipv6_parts}
use Rattle.ep_ext.specs.Walks.{marked, header_ref_part, header_at}
use Rattle.ep_ext.proofs.WalkLemmas.{WalkedBy, walk_start, walk_more, walk_fewer, walk_end, written_more, fit_more, one_walk, one_walk_refusal, walks_not_refused, space_for, succeeds, on_ok, on_err, when_ok}
use Rattle.ep_ext.proofs.WalkLengthLemmas.{walk_len}
use Rattle.ep_ext.proofs.WalkLawLemmas.{walk_present}
use Rattle.ep_ext.proofs.WalkMarkLemmas.{no_marks, marks_left}
use Rattle.ep_ext.proofs.ipv6_exts.Ipv6Extensions.write.Goals as goal

pub returns-in-Err-clause-walk : goal.returns-in-Err-clause-walk
returns-in-Err-clause-walk c = λ error. (
  (λ refused. λ i. Err (write_error.Content
      (one_walk_refusal c.args.self.now c.args.first.0 c.in-Err.error error c.in-Err.ensures.err refused i))),
  (λ same. let inner : c.in-Err.error ≡ error = cc in subst
      (RefusesWalk c.args.self.now c.args.first.0) inner c.in-Err.ensures.err),
)

pub loop-header-init : goal.loop-header-init
loop-header-init c =
    let d = c.default-marks.ensures in
    let none : no_marks ≡ c.default-marks.result = sym (λ i. record {
      any = d.0 i;
      hop_by_hop = d.1.0 i;
      destination_options = d.1.1.0 i;
      routing = d.1.1.1.0 i;
      fragment = d.1.1.1.1.0 i;
      auth = d.1.1.1.1.1.0 i;
      final_destination_options = d.1.1.1.1.1.1 i;
    }) in
    record {
      parts = [];
      by = subst (WalkedBy c.args.self.now c.args.first.0 [] c.args.first.0) none
          (walk_start c.args.self.now c.args.first.0);
      fit = tt;
      written = c.reserve.ensures.items ∙ sym (append-nil c.args.buf.now.items);
      capacity = c.reserve.ensures.capacity;
      room = omega (
        arith,
        when_ok c.reserve.result _ c.if-is_err.ensures.negation c.reserve.ensures.ok,
        c.reserve.ensures.len,
        c.header_len.ensures.bytes,
      );
    }

pub returns-then-is_err-clause-walk : goal.returns-then-is_err-clause-walk
returns-then-is_err-clause-walk c =
    let walks = c.in_default.ensures.ok in
    λ error. (
      (λ refused. absurd (walks_not_refused c.args.self.now c.args.first.0 walks.0 c.in_default.field-0.0
          error walks.1 refused)),
      (λ same. absurd (cc)),
    )

-- If an allocation failed, the headers of the walk exceed the capacity.
pub returns-then-is_err-clause-full : goal.returns-then-is_err-clause-full
returns-then-is_err-clause-full c =
    let walks = c.in_default.ensures.ok in
    λ wanting. (
      walks.0,
      c.in_default.field-0.0,
      walks.1,
      omega (
        arith,
        on_err c.reserve.result _ (sym c.if-is_err.ensures.value) c.reserve.ensures.full,
        c.header_len.ensures.bytes,
        walk_len c.args.self.now c.args.first.0 walks.0 c.in_default.field-0.0 walks.1,
      ),
    )

-- The capacity reserved for all headers suffices for each.
pub unwrap-requires : goal.unwrap-requires
unwrap-requires c =
    let e = c.args.self.now in
    let first = c.args.first.0 in
    let inv = c.loop-header.invariant in
    let part = header_ref_part c.in-Some.header in
    let new = marked c.loop-header.marks part in
    let more = walk_more e first inv.parts c.loop-header.number.0 c.loop-header.marks part (part_next part) new
    inv.by c.in-Some.ensures refl refl in
    let prefix = inv.parts ++ part ∷ [] in
    let after = walk_present (suc (marks_left new)) e more.taken (extensions_of prefix) new (part_next part)
    (omega arith) more.is_marked in
    let walks = c.in_default.ensures.ok in
    let same = one_walk e [] first walks.0 (prefix ++ after.0) c.in_default.field-0.0 after.1 walks.1.0
    (more.walk after.0 after.1 after.2) in
    let start = c.args.buf.now in
    let now = c.loop-header.buf in
    let size : vec_len now ≡ vec_len start + length (parts_bytes inv.parts) = omega (
      arith,
      now.ok.0,
      start.ok.0,
      ap length inv.written,
      length-append start.items (parts_bytes inv.parts),
    ) in
    succeeds c.write.result (vec_capacity now) (vec_len now + length (part_bytes part)) c.write.ensures.full
    (space_for (vec_capacity now) (vec_len start) (vec_len now) (length (parts_bytes (ipv6_parts e)))
    inv.parts part after.0 inv.room
    (sym (ap (λ (p : List ExtensionPart). length (parts_bytes p)) same.0)
    ∙ walk_len e first walks.0 c.in_default.field-0.0 walks.1) size)

pub loop-header-smaller : goal.loop-header-smaller
loop-header-smaller c =
    walk_fewer c.args.self.now c.args.first.0 c.loop-header.invariant.parts c.loop-header.number.0 c.loop-header.marks
    (header_ref_part c.in-Some.header) _
    c.loop-header.invariant.by c.in-Some.ensures c.mark.ensures

pub loop-header-preserved : goal.loop-header-preserved
loop-header-preserved c =
    let part = header_ref_part c.in-Some.header in
    let inv = c.loop-header.invariant in
    record {
      parts = inv.parts ++ part ∷ [];
      by = walk_more c.args.self.now c.args.first.0 inv.parts c.loop-header.number.0 c.loop-header.marks part _ _
          inv.by c.in-Some.ensures c.next_header-number.ensures c.mark.ensures;
      fit = fit_more inv.parts part inv.fit c.write.ensures.fits;
      written = written_more c.args.buf.now.items c.loop-header.buf.items c.write.new.buf.items inv.parts part
          inv.written
          (on_ok c.write.result _ (ap is_err c.unwrap.ensures) c.write.ensures.ok);
      capacity = omega (arith, inv.capacity, c.write.ensures.capacity);
      room = omega (arith, inv.room, c.write.ensures.capacity);
    }

pub returns-clause-ok : goal.returns-clause-ok
returns-clause-ok c =
    let e = c.args.self.now in
    let first = c.args.first.0 in
    let inv = c.loop-header.invariant in
    let walks = c.in_default.ensures.ok in
    let none : None ≡ header_at e c.loop-header.marks c.loop-header.number.0 = sym (ap
    (option_map header_ref_part) c.in_default-find_unvisited.is) ∙ c.find_unvisited.ensures in
    let walk = walk_end e first inv.parts c.loop-header.number.0 c.loop-header.marks inv.by none in
    let same = one_walk e [] first walks.0 inv.parts c.in_default.field-0.0 c.loop-header.number.0 walks.1.0 walk in (
      inv.parts,
      c.loop-header.number.0,
      (
        walk,
        subst (λ (p : List ExtensionPart). missing_number e (extensions_of p)
            ≡ None) same.0 walks.1.1,
      ),
      inv.fit,
      inv.written,
    )

pub returns-clause-walk : goal.returns-clause-walk
returns-clause-walk c =
    let walks = c.in_default.ensures.ok in
    λ error. (
      (λ refused. absurd (walks_not_refused c.args.self.now c.args.first.0 walks.0 c.in_default.field-0.0
          error walks.1 refused)),
      (λ same. absurd (cc)),
    )

pub returns-then-is_err-clause-err : goal.returns-then-is_err-clause-err
returns-then-is_err-clause-err c = grind (arith, common_steps)
