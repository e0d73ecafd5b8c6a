use Rattle.std.proofs.Common.{◌≡◌, ◌⊎◌, ◌-◌, ℕ, zero, suc, List, [], ◌∷◌, ◌++◌, length, Some, None}
use Rattle.std.proofs.Common.{sym, ap, subst, ◌∙◌, arith, inl, inr}
use Rattle.std.proofs.lemmas.Grind.{common_steps}
use Rattle.std.proofs.lemmas.Result.{IfOk-weaker, IfErr-weaker}
use Rattle.std.specs.Option.{option_map}
use Rattle.ep_base.specs.Readings.{headers}
use Rattle.ep_base.specs.declared.ether_type.EtherType.{EtherType}
use Rattle.ep_base.specs.declared.len_source.LenSource.{LenSource}
use Rattle.ep_link.specs.declared.link_ext.link_ext_header.LinkExtHeader.{LinkExtHeader}
use Rattle.ep_link.specs.EtherPayloads.{ether_payload_of}
use Rattle.ep_link.specs.LinkExtensions.{BeginsLinkExtension, extension_ether_payload, link_extension_of}
use Rattle.ep_link.proofs.LinkExtensionLemmas.{extension_len}
use Rattle.ep_packet.specs.declared.err.slice_error.SliceError.{SliceError}
use Rattle.ep_packet.specs.Frame.{most_link_exts, net_kind}
use Rattle.ep_packet.specs.HeadersWalk.{FillsInside, ending_by}
use Rattle.ep_packet.specs.PacketHeaders.{headers_of}
use Rattle.ep_packet.specs.PayloadParts.{macsec_modified}
use Rattle.ep_packet.specs.FrameRefusals.{RefusesExtensionAt, RefusesInside, RefusesNetPart, extension_refusal}
use Rattle.ep_packet.proofs.HeadersLemmas.{fills_no_more}
use Rattle.ep_packet.proofs.InsideHeadersLemmas.{fills_one, fills_modified, tag_refused, with_tag}
use Rattle.ep_packet.proofs.WalkLemmas.{found_present, none_present, space_after}
use Rattle.ep_packet.proofs.packet_headers.PacketHeaders.+fill_inside.Goals as goal

-- If no further link extension is read, an error of the network layer is an error of the bytes.
refused_alone : (space offset : ℕ) (type : EtherType) (bytes : List ℕ) → ((space ≡ 0) ⊎ (¬ BeginsLinkExtension type))
    → (error : SliceError) → RefusesNetPart headers offset (net_kind type) bytes error
    → RefusesInside headers space offset (Some type) bytes error
refused_alone zero offset type bytes why error refused = refused
refused_alone (suc space) offset type bytes (inl full) error refused = absurd (omega (arith, full))
refused_alone (suc space) offset type bytes (inr none) error refused = inl (none, refused)

-- Otherwise an error of the required link extension is an error of the bytes.
refused_extension : (space rest offset : ℕ) (type : EtherType) (bytes : List ℕ) (error : SliceError) → space ≡ suc rest
    → RefusesExtensionAt offset type bytes error → RefusesInside headers space offset (Some type) bytes error
refused_extension space rest offset type bytes error more refused =
    subst (λ (n : ℕ). RefusesInside headers n offset (Some type) bytes error) (sym more) (inr (inl refused))

pub returns-then-is_full-clause-err : goal.returns-then-is_full-clause-err
returns-then-is_full-clause-err t c =
    let space = most_link_exts - length c.args.self.now.link_exts.items in
    let payload = c.args.payload in
    let none : space ≡ 0 = grind (arith, common_steps) in
    IfErr-weaker c.fill_net.result _ _
    (λ error refused. refused_alone space c.args.offset payload.ether_type payload.payload.now (inl none) error refused)
    c.fill_net.ensures.err

pub returns-in-Ok-None-clause-err : goal.returns-in-Ok-None-clause-err
returns-in-Ok-None-clause-err t c =
    let space = most_link_exts - length c.args.self.now.link_exts.items in
    let payload = c.args.payload in
    let none = none_present payload.ether_type c.in-Ok-None.field-0 c.in-Ok-None.field-0-is c.in-Ok-None.ensures.none in
    IfErr-weaker c.fill_net-in-Ok-None.result _ _
    (λ error refused. refused_alone space c.args.offset payload.ether_type payload.payload.now (inr none) error refused)
    c.fill_net-in-Ok-None.ensures.err

pub returns-in-Err-Content-clause-err : goal.returns-in-Err-Content-clause-err
returns-in-Err-Content-clause-err t c =
    let space = most_link_exts - length c.args.self.now.link_exts.items in
    let payload = c.args.payload in
    let more : space ≡ suc (space - 1) = grind (arith, common_steps) in
    let found = c.in-Err-Content in
    refused_extension space (space - 1) c.args.offset payload.ether_type payload.payload.now _ more
    (found.field-0, found.ensures.err, sym (ap (extension_refusal c.args.offset) found.field-0-is))

pub returns-then-is_full-clause-ok : goal.returns-then-is_full-clause-ok
returns-then-is_full-clause-ok t c =
    IfOk-weaker c.fill_net.result _ _
    (λ done fills. fills_no_more (most_link_exts - length c.args.self.now.link_exts.items)
    (ether_payload_of c.args.payload)
    (headers_of c.args.self.now) (headers_of c.fill_net.new.self) (inl (grind (arith, common_steps))) fills)
    c.fill_net.ensures.ok

pub returns-in-Ok-None-clause-ok : goal.returns-in-Ok-None-clause-ok
returns-in-Ok-None-clause-ok t c =
    let none = none_present c.args.payload.ether_type c.in-Ok-None.field-0 c.in-Ok-None.field-0-is
    c.in-Ok-None.ensures.none in
    IfOk-weaker c.fill_net-in-Ok-None.result _ _
    (λ done fills. fills_no_more (most_link_exts - length c.args.self.now.link_exts.items)
    (ether_payload_of c.args.payload)
    (headers_of c.args.self.now) (headers_of c.fill_net-in-Ok-None.new.self) (inr none) fills)
    c.fill_net-in-Ok-None.ensures.ok

pub overflow_add-offset : goal.overflow_add-offset
overflow_add-offset t c =
    let found = c.in-Ok-Some.extension in
    let present = found_present c.args.payload.ether_type c.args.payload.payload.now
    c.in-Ok-Some.field-0 found c.in-Ok-Some.field-0-is c.in-Ok-Some.ensures.ok in
    let len = extension_len c.args.payload.ether_type c.args.payload.payload.now
    (link_extension_of found, present.0) present.2 in
    omega (arith, len, c.header_len.ensures, c.requires.place)

pub returns-in-Some-clause-ok : goal.returns-in-Some-clause-ok
returns-in-Some-clause-ok t c =
    let found = link_extension_of c.in-Ok-Some.extension in
    let present = found_present c.args.payload.ether_type c.args.payload.payload.now c.in-Ok-Some.field-0
    c.in-Ok-Some.extension c.in-Ok-Some.field-0-is c.in-Ok-Some.ensures.ok in
    let old = headers_of c.args.self.now in
    let more = space_after old.link_exts _ _ c.push.ensures.items (grind (arith, common_steps)) in
    let shown : c.ether_payload.result ≡ Some c.in-Some.inside = cc c.in-Some.is in
    let same : extension_ether_payload found ≡ Some (ether_payload_of c.in-Some.inside) =
    sym c.ether_payload.ensures ∙ ap (option_map ether_payload_of) shown in
    let pushed = c.push.new.self.items in
    let rest = most_link_exts - length pushed in
    let tagged = c.push.ensures.items ∙ ap (λ (h : LinkExtHeader). old.link_exts ++ h ∷ []) c.to_header.ensures in
    let middle = record old { link_exts = pushed } in
    let new = headers_of c.fill_inside.new.self in
    IfOk-weaker c.fill_inside.result _ _
    (λ done after. fills_one _ rest (ether_payload_of c.args.payload)
    (ether_payload_of c.in-Some.inside) present.0 found
    old middle new more present.2 same (ap (λ (x : List LinkExtHeader). record old { link_exts = x }) tagged)
    (subst (λ (s : LenSource). FillsInside rest (ending_by s (ether_payload_of c.in-Some.inside)) middle new)
    c.limited_by.ensures after))
    c.fill_inside.ensures.ok

pub returns-in-Some-clause-err : goal.returns-in-Some-clause-err
returns-in-Some-clause-err t c =
    let found = link_extension_of c.in-Ok-Some.extension in
    let present = found_present c.args.payload.ether_type c.args.payload.payload.now c.in-Ok-Some.field-0
    c.in-Ok-Some.extension c.in-Ok-Some.field-0-is c.in-Ok-Some.ensures.ok in
    let more = space_after c.args.self.now.link_exts.items _ _ c.push.ensures.items (grind (arith, common_steps)) in
    let shown : c.ether_payload.result ≡ Some c.in-Some.inside = cc c.in-Some.is in
    let same : extension_ether_payload found ≡ Some (ether_payload_of c.in-Some.inside) =
    sym c.ether_payload.ensures ∙ ap (option_map ether_payload_of) shown in
    IfErr-weaker c.fill_inside.result _ _
    (λ error refused. tag_refused _ _ c.args.offset c.header_len.result (ether_payload_of c.args.payload)
    (ether_payload_of c.in-Some.inside) present.0 found error more present.2 same c.header_len.ensures refused)
    c.fill_inside.ensures.err

pub returns-in-None-clause-ok : goal.returns-in-None-clause-ok
returns-in-None-clause-ok t c =
    let found = link_extension_of c.in-Ok-Some.extension in
    let present = found_present c.args.payload.ether_type c.args.payload.payload.now c.in-Ok-Some.field-0
    c.in-Ok-Some.extension c.in-Ok-Some.field-0-is c.in-Ok-Some.ensures.ok in
    let old = headers_of c.args.self.now in
    let more = space_after old.link_exts _ _ c.push.ensures.items (grind (arith, common_steps)) in
    let tagged = c.push.ensures.items ∙ ap (λ (h : LinkExtHeader). old.link_exts ++ h ∷ []) c.to_header.ensures in
    let none : extension_ether_payload found ≡ None =
    sym c.ether_payload.ensures ∙ ap (option_map ether_payload_of) c.in-None.is in
    fills_modified _ _ (ether_payload_of c.args.payload) present.0 found old _ more present.2 none
    (c.set_payload.ensures
    ∙ ap (λ (x : List LinkExtHeader). record old {
      link_exts = x;
      net = None;
      transport = None;
      payload = macsec_modified c.payload_slice.result.now;
    }) tagged
    ∙ ap (λ b. record (with_tag old found) { net = None; transport = None; payload = macsec_modified b })
    c.payload_slice.ensures)
