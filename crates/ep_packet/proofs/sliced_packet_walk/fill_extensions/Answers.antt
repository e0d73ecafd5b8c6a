use Rattle.std.proofs.Common.{rules, tests, ◌≡◌, ◌+◌, ◌-◌, suc, length, ap, sym, arith, inl, inr}
use Rattle.std.proofs.lemmas.Grind.{common_steps}
use Rattle.ep_link.specs.LinkExtensions.{link_extension_of}
use Rattle.ep_link.proofs.LinkExtensionLemmas.{extension_len}
use Rattle.ep_packet.specs.declared.err.slice_error.SliceError.TheVariants.{Len, Macsec}
use Rattle.ep_packet.specs.Frame.{most_link_exts}
use Rattle.ep_packet.specs.FrameRefusals.{extension_refusal}
use Rattle.ep_packet.proofs.SliceWalkLemmas.{extensions_end, known_begins_none, reads_nothing, reads_one}
use Rattle.ep_packet.proofs.SliceWalkLemmas.{reads_refused, unknown_begins_none}
use Rattle.ep_packet.proofs.WalkLemmas.{found_present, none_present, space_after}
use Rattle.ep_packet.proofs.sliced_packet_walk.fill_extensions.Goals as goal

pub loop-known-init : goal.loop-known-init
loop-known-init c =
    let none = c.requires.empty in
    reads_nothing c.args.offset (most_link_exts - length c.args.link_exts.now.items) c.args.ether_type
    c.args.slice.now c.args.link_exts.now.items none (omega (arith, ap length none))

pub returns-in_default-clause-ok : goal.returns-in_default-clause-ok
returns-in_default-clause-ok c =
    let here = c.loop-known in
    extensions_end c.args.offset c.args.ether_type c.args.slice.now here.link_exts.items
    (most_link_exts - length here.link_exts.items) here.inside.offset here.inside.ether_type here.inside.slice.now
    here.invariant (inr (unknown_begins_none here.inside.ether_type c.in_default.is))

pub returns-in-Ok-None-clause-ok : goal.returns-in-Ok-None-clause-ok
returns-in-Ok-None-clause-ok c =
    let here = c.loop-known in
    let none = none_present c.in-Some.known c.in-Ok-None.field-0 c.in-Ok-None.field-0-is c.in-Ok-None.ensures.none in
    extensions_end c.args.offset c.args.ether_type c.args.slice.now here.link_exts.items
    (most_link_exts - length here.link_exts.items) here.inside.offset here.inside.ether_type here.inside.slice.now
    here.invariant (inr (known_begins_none here.inside.ether_type c.in-Some.known c.in-Some.is none))

pub returns-in-Err-Len-clause-err : goal.returns-in-Err-Len-clause-err
returns-in-Err-Len-clause-err c =
    let here = c.loop-known in
    let space = most_link_exts - length here.link_exts.items in
    let more : space ≡ suc (space - 1) = grind (arith, common_steps) in
    reads_refused c.args.offset c.args.ether_type c.args.slice.now here.link_exts.items space (space - 1)
    here.inside.offset here.inside.ether_type c.in-Some.known here.inside.slice.now (Len c.add_offset.result)
    here.invariant more c.in-Some.is
    (c.in-Err-Len.field-0, c.in-Err-Len.ensures.err, search (rules, tests))

pub returns-in-Err-Content-clause-err : goal.returns-in-Err-Content-clause-err
returns-in-Err-Content-clause-err c =
    let here = c.loop-known in
    let space = most_link_exts - length here.link_exts.items in
    let more : space ≡ suc (space - 1) = grind (arith, common_steps) in
    let found = c.in-Err-Content in
    reads_refused c.args.offset c.args.ether_type c.args.slice.now here.link_exts.items space (space - 1)
    here.inside.offset here.inside.ether_type c.in-Some.known here.inside.slice.now (Macsec found.error)
    here.invariant more c.in-Some.is
    (found.field-0, found.ensures.err, sym (ap (extension_refusal here.inside.offset) found.field-0-is))

pub overflow_add-inside : goal.overflow_add-inside
overflow_add-inside c =
    let here = c.loop-known.inside in
    let found = c.in-Ok-Some.extension in
    let present = found_present c.in-Some.known here.slice.now c.in-Ok-Some.field-0 found c.in-Ok-Some.field-0-is
    c.in-Ok-Some.ensures.ok in
    let len = extension_len c.in-Some.known here.slice.now (link_extension_of found, present.0) present.2 in
    omega (arith, len, c.header_len.ensures, c.loop-known.invariant.place, c.requires.place)

pub loop-known-preserved : goal.loop-known-preserved
loop-known-preserved c =
    let here = c.loop-known in
    let found = c.in-Ok-Some.extension in
    let present = found_present c.in-Some.known here.inside.slice.now c.in-Ok-Some.field-0 found c.in-Ok-Some.field-0-is
    c.in-Ok-Some.ensures.ok in
    let more = space_after here.link_exts.items _ _ c.push.ensures.items (grind (arith, common_steps)) in
    reads_one c.args.offset c.args.ether_type c.args.slice.now here.link_exts.items
    c.push.new.self.items _ _ here.inside.offset _ here.inside.ether_type c.next_ether_type.result c.in-Some.known
    here.inside.slice.now present.0 c.payload_slice.result.now found here.invariant more c.in-Some.is
    (present.0, present.1) present.2 c.push.ensures.items (ap (λ n. here.inside.offset + n) c.header_len.ensures)
    c.next_ether_type.ensures c.payload_slice.ensures

pub returns-clause-ok : goal.returns-clause-ok
returns-clause-ok c =
    let here = c.loop-known in
    let space = most_link_exts - length here.link_exts.items in
    extensions_end c.args.offset c.args.ether_type c.args.slice.now here.link_exts.items space here.inside.offset
    here.inside.ether_type here.inside.slice.now here.invariant (inl (grind (arith, common_steps)))
