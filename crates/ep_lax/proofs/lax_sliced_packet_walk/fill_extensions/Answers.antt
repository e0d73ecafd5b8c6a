use Rattle.std.proofs.Common.{◌≡◌, ◌+◌, ◌-◌, suc, length, ap, arith, inl, inr}
use Rattle.std.proofs.lemmas.Grind.{common_steps}
use Rattle.ep_packet.specs.Frame.{most_link_exts}
use Rattle.ep_packet.proofs.WalkLemmas.{space_after}
use Rattle.ep_lax.specs.LaxViews.{extension_incomplete, lax_extension_of}
use Rattle.ep_lax.proofs.LaxWalkLemmas.{extensions_end, known_begins_none, lax_extension_len, reads_nothing, reads_one}
use Rattle.ep_lax.proofs.LaxWalkLemmas.{found_present, none_present, reads_refused, tag_refused, tag_start, unknown_begins_none}
use Rattle.ep_lax.proofs.lax_sliced_packet_walk.fill_extensions.Goals as goal

pub loop-known-init : goal.loop-known-init
loop-known-init c =
    let none = c.requires.empty in
    reads_nothing c.args.offset (most_link_exts - length c.args.link_exts.now.items) c.args.ether_type
    c.args.slice.now c.args.link_exts.now.items none (omega (arith, ap length none))

pub returns-in_default-clause-ok : goal.returns-in_default-clause-ok
returns-in_default-clause-ok c =
    let here = c.loop-known in
    extensions_end c.args.offset c.args.ether_type c.args.slice.now here.link_exts.items
    (most_link_exts - length here.link_exts.items) here.inside.offset here.inside.ether_type here.inside.slice.now
    here.inside.incomplete here.invariant (inr (unknown_begins_none here.inside.ether_type c.in_default.is))

pub returns-in-Ok-None-clause-ok : goal.returns-in-Ok-None-clause-ok
returns-in-Ok-None-clause-ok c =
    let here = c.loop-known in
    let none = none_present c.in-Some.known c.in-Ok-None.field-0 c.in-Ok-None.field-0-is c.in-Ok-None.ensures.none in
    extensions_end c.args.offset c.args.ether_type c.args.slice.now here.link_exts.items
    (most_link_exts - length here.link_exts.items) here.inside.offset here.inside.ether_type here.inside.slice.now
    here.inside.incomplete here.invariant
    (inr (known_begins_none here.inside.ether_type c.in-Some.known c.in-Some.is none))

pub extension_stop-requires : goal.extension_stop-requires
extension_stop-requires c =
    let here = c.loop-known in
    omega (
      arith,
      tag_start c.in-Some.known here.inside.slice.now c.in-Err.error c.in-Err.ensures.err,
      here.invariant.place,
      c.requires.place,
    )

pub returns-in-Err-clause-err : goal.returns-in-Err-clause-err
returns-in-Err-clause-err c =
    let here = c.loop-known in
    let space = most_link_exts - length here.link_exts.items in
    let more : space ≡ suc (space - 1) = grind (arith, common_steps) in
    reads_refused c.args.offset c.args.ether_type c.args.slice.now here.link_exts.items space (space - 1)
    here.inside.offset here.inside.ether_type c.in-Some.known here.inside.slice.now here.inside.incomplete
    c.extension_stop.result here.invariant more c.in-Some.is
    (rw c.extension_stop.ensures
    (tag_refused here.inside.offset c.in-Some.known here.inside.slice.now c.in-Err.error c.in-Err.ensures.err))

pub overflow_add-inside : goal.overflow_add-inside
overflow_add-inside c =
    let here = c.loop-known.inside in
    let found = c.in-Ok-Some.extension in
    let present = found_present c.in-Some.known here.slice.now here.incomplete c.in-Ok-Some.field-0 found
    c.in-Ok-Some.field-0-is c.in-Ok-Some.ensures.ok in
    let len = lax_extension_len here.incomplete c.in-Some.known here.slice.now
    (lax_extension_of found, extension_incomplete here.incomplete found) present.is in
    omega (arith, len, c.header_len.ensures, c.loop-known.invariant.place, c.requires.place)

pub loop-known-preserved : goal.loop-known-preserved
loop-known-preserved c =
    let here = c.loop-known in
    let found = c.in-Ok-Some.extension in
    let present = found_present c.in-Some.known here.inside.slice.now here.inside.incomplete c.in-Ok-Some.field-0 found
    c.in-Ok-Some.field-0-is c.in-Ok-Some.ensures.ok in
    let more = space_after here.link_exts.items _ _ c.push.ensures.items (grind (arith, common_steps)) in
    reads_one c.args.offset c.args.ether_type c.args.slice.now here.link_exts.items c.push.new.self.items _ _
    here.inside.offset _ here.inside.ether_type c.next_ether_type.result c.in-Some.known here.inside.slice.now
    c.payload_slice.result.now here.inside.incomplete c.incomplete_in.result found here.invariant more c.in-Some.is
    present c.push.ensures.items (ap (λ n. here.inside.offset + n) c.header_len.ensures) c.next_ether_type.ensures
    c.payload_slice.ensures c.incomplete_in.ensures

pub returns-clause-ok : goal.returns-clause-ok
returns-clause-ok c =
    let here = c.loop-known in
    let space = most_link_exts - length here.link_exts.items in
    extensions_end c.args.offset c.args.ether_type c.args.slice.now here.link_exts.items space here.inside.offset
    here.inside.ether_type here.inside.slice.now here.inside.incomplete here.invariant
    (inl (grind (arith, common_steps)))
