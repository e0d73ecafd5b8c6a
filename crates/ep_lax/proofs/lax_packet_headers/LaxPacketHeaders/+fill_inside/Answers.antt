use Rattle.std.proofs.Common.{◌≡◌, ◌-◌, ◌+◌, suc, List, [], ◌∷◌, ◌++◌, length, Bool, None}
use Rattle.std.proofs.Common.{sym, ap, subst, ◌∙◌, arith, inl, inr}
use Rattle.std.proofs.lemmas.Grind.{common_steps}
use Rattle.ep_link.specs.declared.link_ext.link_ext_header.LinkExtHeader.{LinkExtHeader}
use Rattle.ep_link.specs.LinkExtensions.{LinkExtension}
use Rattle.ep_packet.specs.Frame.{most_link_exts}
use Rattle.ep_packet.proofs.WalkLemmas.{space_after}
use Rattle.ep_lax.specs.Lax.{RefusesLaxExtension}
use Rattle.ep_lax.specs.LaxPacketHeaders.{lax_headers_of}
use Rattle.ep_lax.specs.LaxPayloadParts.{macsec_modified}
use Rattle.ep_lax.specs.LaxPayloads.{lax_ether_payload_of}
use Rattle.ep_lax.specs.LaxViews.{extension_incomplete, lax_extension_of}
use Rattle.ep_lax.proofs.LaxPacketHeadersLemmas.{fills_modified, fills_no_more, fills_one, fills_stopped}
use Rattle.ep_lax.proofs.LaxWalkLemmas.{found_present, lax_extension_len, none_present, tag_refused, tag_start}
use Rattle.ep_lax.proofs.lax_packet_headers.LaxPacketHeaders.+fill_inside.Goals as goal

pub returns-then-is_full : goal.returns-then-is_full
returns-then-is_full t c =
    fills_no_more (most_link_exts - length c.args.self.now.link_exts.items) c.args.offset
    (lax_ether_payload_of c.args.payload) (lax_headers_of c.args.self.now) (lax_headers_of c.fill_net.new.self)
    (inl (grind (arith, common_steps))) c.fill_net.ensures

pub returns-in-Ok-None : goal.returns-in-Ok-None
returns-in-Ok-None t c =
    let none = none_present c.args.payload.ether_type c.in-Ok-None.field-0 c.in-Ok-None.field-0-is
    c.in-Ok-None.ensures.none in
    fills_no_more (most_link_exts - length c.args.self.now.link_exts.items) c.args.offset
    (lax_ether_payload_of c.args.payload) (lax_headers_of c.args.self.now)
    (lax_headers_of c.fill_net-in-Ok-None.new.self) (inr none) c.fill_net-in-Ok-None.ensures

pub extension_stop-requires : goal.extension_stop-requires
extension_stop-requires t c =
    omega (
      arith,
      tag_start c.args.payload.ether_type c.args.payload.payload.now c.in-Err.error c.in-Err.ensures.err,
      c.requires,
    )

pub returns-in-Err : goal.returns-in-Err
returns-in-Err t c =
    let space = most_link_exts - length c.args.self.now.link_exts.items in
    let payload = c.args.payload in
    let more : space ≡ suc (space - 1) = grind (arith, common_steps) in
    let refused = subst (RefusesLaxExtension c.args.offset payload.ether_type payload.payload.now)
    (sym c.extension_stop.ensures)
    (tag_refused c.args.offset payload.ether_type payload.payload.now c.in-Err.error c.in-Err.ensures.err) in
    fills_stopped space (space - 1) c.args.offset (lax_ether_payload_of payload) c.extension_stop.result
    (lax_headers_of c.args.self.now) (lax_headers_of c.stop_in.new.self) more refused c.stop_in.ensures

pub overflow_add-inside_offset : goal.overflow_add-inside_offset
overflow_add-inside_offset t c =
    let payload = c.args.payload in
    let found = c.in-Ok-Some.extension in
    let present = found_present payload.ether_type payload.payload.now payload.incomplete c.in-Ok-Some.field-0 found
    c.in-Ok-Some.field-0-is c.in-Ok-Some.ensures.ok in
    let len = lax_extension_len payload.incomplete payload.ether_type payload.payload.now
    (lax_extension_of found, extension_incomplete payload.incomplete found) present.is in
    omega (arith, len, c.header_len.ensures, c.requires)

pub returns-in-Some : goal.returns-in-Some
returns-in-Some t c =
    let payload = c.args.payload in
    let found = c.in-Ok-Some in
    let present = found_present payload.ether_type payload.payload.now payload.incomplete found.field-0 found.extension
    found.field-0-is found.ensures.ok in
    let old = lax_headers_of c.args.self.now in
    let more = space_after old.link_exts _ _ c.push.ensures.items (grind (arith, common_steps)) in
    let tags = c.push.ensures.items ∙ ap (λ (h : LinkExtHeader). old.link_exts ++ h ∷ []) c.to_header.ensures in
    let type = c.in-Some.ether_type in
    fills_one _ _ c.args.offset _ (lax_ether_payload_of payload) _
    (lax_extension_of found.extension, extension_incomplete payload.incomplete found.extension) old
    (record old { link_exts = c.push.new.self.items }) (lax_headers_of c.fill_inside.new.self) more present.is
    (sym c.next_ether_type.ensures ∙ c.in-Some.is)
    (λ i. record {
      ether_type = type;
      len_source = c.len_source_in.ensures i;
      bytes = c.payload_slice.ensures i;
      incomplete = c.incomplete_in-incomplete.ensures i;
    })
    (ap (λ n. c.args.offset + n) c.header_len.ensures)
    (ap (λ (x : List LinkExtHeader). record old { link_exts = x }) tags) c.fill_inside.ensures

pub returns-in-None : goal.returns-in-None
returns-in-None t c =
    let payload = c.args.payload in
    let found = c.in-Ok-Some.extension in
    let tagged : LinkExtension × Bool = (lax_extension_of found, extension_incomplete payload.incomplete found) in
    let present = found_present payload.ether_type payload.payload.now payload.incomplete c.in-Ok-Some.field-0 found
    c.in-Ok-Some.field-0-is c.in-Ok-Some.ensures.ok in
    let old = lax_headers_of c.args.self.now in
    let more = space_after old.link_exts _ _ c.push.ensures.items (grind (arith, common_steps)) in
    let tags = c.push.ensures.items ∙ ap (λ (h : LinkExtHeader). old.link_exts ++ h ∷ []) c.to_header.ensures in
    fills_modified _ _ c.args.offset (lax_ether_payload_of payload) tagged old
    (lax_headers_of c.set_payload.new.self) more present.is (sym c.next_ether_type.ensures ∙ c.in-None.is)
    (c.set_payload.ensures
    ∙ (λ i. record old {
      link_exts = tags i;
      net = None;
      transport = None;
      payload = macsec_modified (c.payload_slice-in-None.ensures i) (c.incomplete_in-incomplete.ensures i);
      stop = None;
    }))
