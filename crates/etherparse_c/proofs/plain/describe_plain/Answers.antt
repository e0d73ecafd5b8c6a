use Rattle.std.proofs.Common.{List, ℕ, Some, refl, subst}
use Rattle.etherparse.specs.Readings.{slices}
use Rattle.etherparse.specs.Types.EtherType.{EtherType}
use Rattle.etherparse.specs.Ethernet2Slices.{ethernet2_slice_header, ethernet2_slice_payload}
use Rattle.etherparse.specs.LinkSlices.{ethernet2}
use Rattle.etherparse.specs.Frame.{IsInside, most_link_exts}
use Rattle.etherparse_c.specs.Description.{part}
use Rattle.etherparse_c.proofs.PlainLemmas.{begins_none, plain_described, plain_frame, plain_layers}
use Rattle.etherparse_c.proofs.plain.describe_plain.Goals as goal

pub returns : goal.returns
returns c =
    λ done.
    let bytes = c.args.bytes.now in
    let ok = c.in-Ok.ensures.ok in
    let frame = c.in-Ok.frame in
    let untagged = c.in-Some.untagged in
    let found = c.in-Some.ensures in
    let tags = found.0 in
    let does = c.describe_net.ensures done in
    let net = does.net in
    let transport = does.transport in
    let header = ethernet2_slice_header frame in
    let payload = ethernet2_slice_payload frame in
    let old = record c.args.described.now {
      link = part 1 0 14;
      link_exts = c.describe_vlans.new.slots;
      link_ext_count = c.describe_vlans.new.count;
      refusal = c.no_refusal-described.result;
    } in
    let layers_inside = found.1.holds
    (begins_none untagged.ether_type untagged.slice.now net transport does.holds) (Some net) transport does.holds in
    let inside : IsInside slices most_link_exts (Some header.ether_type) payload tags (Some net) transport =
    subst (λ (t : EtherType). IsInside slices most_link_exts (Some t) payload tags (Some net) transport)
    c.ether_type.ensures
    (subst (λ (b : List ℕ). IsInside slices most_link_exts (Some c.ether_type.result) b tags (Some net) transport)
    c.payload_slice.ensures layers_inside) in (
      plain_layers (Some (ethernet2 header payload)) tags net transport,
      plain_frame bytes ok.0 frame tags net transport ok.2 inside,
      plain_described (Some (ethernet2 header payload)) tags net transport untagged.offset old
          c.describe_net.new.described
          found.1.unlimited found.1.offset refl found.2 found.3 c.no_refusal-described.ensures does.described,
    )
