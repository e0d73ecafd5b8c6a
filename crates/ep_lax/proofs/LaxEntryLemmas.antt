-- Each entry of lax slicing either reads bytes in exactly one way or rejects them with exactly one error.
use Rattle.std.proofs.Common.{◌≡◌, ◌==◌, ◌||◌, not, if◌then◌else◌, ℕ, true, false, List}
use Rattle.std.proofs.Common.{[], length, Some, None, refl, sym, ◌∙◌, inl, inr, arith}
use Rattle.std.proofs.lemmas.Bool.{cases_eq, ne_eqb}
use Rattle.ep_base.specs.Bytes.{AreBytes}
use Rattle.ep_base.specs.Readings.{Reading, slices}
use Rattle.ep_base.specs.Tables.{IsDecided, IsOne, Parts, first_row, rows_as}
use Rattle.ep_base.specs.declared.len_source.LenSource.TheVariants as source
use Rattle.ep_base.proofs.BytesLemmas.{AreBytes-payload}
use Rattle.ep_base.proofs.DecidedLemmas.{decided_as, decided_after, decided_by, refused_as, same_image}
use Rattle.ep_base.proofs.TableLemmas.{first_row-as_some}
use Rattle.ep_ip.specs.Ip.{version_of}
use Rattle.ep_ip.specs.IpPackets.{IpPacket}
use Rattle.ep_ip.specs.Ipv4.{ipv4_header_rows}
use Rattle.ep_ip.specs.Ipv6.{ipv6_header_rows}
use Rattle.ep_ext.specs.Chains.{IpVersion, ipv4, ipv6}
use Rattle.ep_ext.proofs.PartLemmas.{refused_under}
use Rattle.ep_link.specs.declared.link.ethernet2_header.Ethernet2Header.{Ethernet2Header}
use Rattle.ep_link.specs.declared.link.linux_sll_header.LinuxSllHeader.{LinuxSllHeader}
use Rattle.ep_link.specs.Ethernet2.{ethernet2_header_len, ethernet2_bytes}
use Rattle.ep_link.specs.LinuxSll.{linux_sll_header_len, linux_sll_bytes, protocol_ether_type}
use Rattle.ep_link.specs.LinkSlices.{LinkLayer, ethernet2, linux_sll as sll, ether_payload}
use Rattle.ep_packet.specs.declared.entry.Entry.{Entry}
use Rattle.ep_packet.specs.declared.entry.Entry.TheVariants.{Ethernet as ethernet, LinuxSll as linux_sll}
use Rattle.ep_packet.specs.declared.entry.Entry.TheVariants.{EtherType as ether_type, Ip as ip}
use Rattle.ep_packet.specs.declared.err.slice_error.SliceError.{SliceError}
use Rattle.ep_packet.specs.declared.err.slice_error.SliceError.TheVariants.{Len}
use Rattle.ep_packet.specs.Frame.{any_ip, most_link_exts}
use Rattle.ep_packet.specs.FrameRefusals.{linux_sll_refusal}
use Rattle.ep_packet.specs.Layers.{NetLayer, ipv4_layer, ipv6_layer}
use Rattle.ep_packet.proofs.LayerLawLemmas.{layer_laws}
use Rattle.ep_lax.specs.LaxLayers.{LaxLayers, LaxNet}
use Rattle.ep_ip.specs.LaxIp.{LaxIp, RefusesIpHeader, ip_header_rows, of_ipv4_header, of_ipv6_header}
use Rattle.ep_ip.proofs.LaxIpLemmas.{lax_ipv4_decided, lax_ipv4_fits, lax_ipv4_version, lax_ipv6_decided, lax_ipv6_fits, lax_ipv6_version, one_refusal, refused_present, rows_of_ipv4, rows_of_ipv6}
use Rattle.ep_lax.specs.LaxRefusals.{RefusesLax, ip_header_refusal}
use Rattle.ep_lax.specs.Lax.{IsIpLayer, IsIpv4NetIn, IsIpv6NetIn, IsLax, IsLaxIn, IsLaxNetIn}
use Rattle.ep_lax.proofs.LaxLawLemmas.{Inside, HoldsLax, ip_layer_is_one, lax_inside_is_one}

-- ---- IP packets of either version

-- Bytes either begin with an IP packet with the layers in it, or their header is rejected.
net_decided : {Header E : Type 0} {Is : LaxIp Header → Type 0} {Refuses : E → Type 0} (version : IpVersion)
    (layer_of : IpPacket Header → NetLayer) → IsDecided Is Refuses
    → ((lax : LaxIp Header) → Is lax → AreBytes lax.packet.payload.bytes)
    → IsDecided (λ net. (lax : LaxIp Header) × Is lax × IsIpLayer version layer_of 0 lax net) Refuses
net_decided {Header = Header} {E = E} version layer_of decided fits =
    decided_as (λ (read : LaxIp Header × LaxNet). read.1) (λ (error : E). error)
    (decided_after {Next = IsIpLayer version layer_of 0} decided
    (λ lax is. ip_layer_is_one version layer_of 0 lax (fits lax is)))
    (record {
      present = λ read is. (read.0, is.0, is.1);
      back = λ net is. ((is.0, net), (is.1, is.2), refl);
    })
    (same_image (λ error refused. refused) (λ error refused. refused))

ipv4_net_decided : (reading : Reading) (bytes : List ℕ) → AreBytes bytes
    → IsDecided (IsIpv4NetIn reading 0 false bytes) (λ error. first_row (ipv4_header_rows bytes) ≡ Some error)
ipv4_net_decided reading bytes fits =
    net_decided ipv4 ipv4_layer (lax_ipv4_decided reading false bytes fits) (λ lax is. lax_ipv4_fits reading false bytes lax fits is)

ipv6_net_decided : (reading : Reading) (bytes : List ℕ) → AreBytes bytes
    → IsDecided (IsIpv6NetIn reading 0 false bytes) (λ error. first_row (ipv6_header_rows bytes) ≡ Some error)
ipv6_net_decided reading bytes fits =
    net_decided ipv6 ipv6_layer (lax_ipv6_decided reading false bytes fits) (λ lax is. lax_ipv6_fits reading false bytes lax fits is)

-- An IPv4 packet begins with version 4.
ipv4_net_version : (reading : Reading) (bytes : List ℕ) (net : LaxNet) → IsIpv4NetIn reading 0 false bytes net → version_of bytes ≡ 4
ipv4_net_version reading bytes net is = lax_ipv4_version reading false bytes is.0 is.1

ipv6_net_version : (reading : Reading) (bytes : List ℕ) (net : LaxNet) → IsIpv6NetIn reading 0 false bytes net → version_of bytes ≡ 6
ipv6_net_version reading bytes net is = lax_ipv6_version reading false bytes is.0 is.1

-- Bytes either begin with an IP packet of either version, or their header is rejected.
open_version_decided : (reading : Reading) (bytes : List ℕ) → AreBytes bytes
    → IsDecided (IsLaxNetIn reading 0 false (Some any_ip) bytes) (RefusesIpHeader bytes)
open_version_decided reading bytes fits =
    elim (cases_eq (version_of bytes) 4) [
      | inl version ↦
          let rows = rows_of_ipv4 bytes version in
          decided_as (λ (net : LaxNet). net) of_ipv4_header (ipv4_net_decided reading bytes fits)
          (same_image (λ net is. inl is) (λ net is. elim is [
            | inl here ↦ here
            | inr present ↦ absurd (omega (arith, version, ipv6_net_version reading bytes net present))
          ]))
          (record {
            present = λ error refused. rows ∙ first_row-as_some of_ipv4_header (ipv4_header_rows bytes) error refused;
            back = λ error refused. refused_under of_ipv4_header (ipv4_header_rows bytes) error (sym rows ∙ refused);
          })
      | inr not_4 ↦ elim (cases_eq (version_of bytes) 6) [
        | inl version ↦
            let rows = rows_of_ipv6 bytes version in
            decided_as (λ (net : LaxNet). net) of_ipv6_header (ipv6_net_decided reading bytes fits)
            (same_image (λ net is. inr is) (λ net is. elim is [
              | inl present ↦ absurd (omega (arith, version, ipv4_net_version reading bytes net present))
              | inr here ↦ here
            ]))
            (record {
              present = λ error refused. rows ∙ first_row-as_some of_ipv6_header (ipv6_header_rows bytes) error refused;
              back = λ error refused. refused_under of_ipv6_header (ipv6_header_rows bytes) error (sym rows ∙ refused);
            })
        | inr not_6 ↦
            let unknown : not (version_of bytes == 4 || version_of bytes == 6) ≡ true =
            (λ i. not (ne_eqb (version_of bytes) 4 not_4 i || ne_eqb (version_of bytes) 6 not_6 i)) in
            let none : (net : LaxNet) → IsLaxNetIn reading 0 false (Some any_ip) bytes net → ⊥ = λ net is. elim is [
              | inl four ↦ not_4 (ipv4_net_version reading bytes net four)
              | inr six ↦ not_6 (ipv6_net_version reading bytes net six)
            ] in
            record {
              some = inr (refused_present (length bytes == 0) (not (version_of bytes == 4 || version_of bytes == 6)) _ _
                  (if version_of bytes == 4 then rows_as of_ipv4_header (ipv4_header_rows bytes)
                  else rows_as of_ipv6_header (ipv6_header_rows bytes)) unknown);
              one_value = λ net other a b. absurd (none net a);
              one_error = λ e f a b. one_refusal (first_row (ip_header_rows bytes)) e f a b;
              not_both = λ net error a b. none net a;
            }
      ]
    ]

-- ---- entries

-- The layers of a link layer and of the bytes in its payload.
abbrev with_link : LinkLayer → Inside → LaxLayers
with_link link inside = record { link = Some link; link_exts = inside.0; net = inside.1 }

-- The layers of a packet without link layer.
abbrev without_link : LaxNet → LaxLayers
without_link net = record { link = None; link_exts = []; net = net }

-- A link layer with one result for its payload is either valid, or its header is rejected.
after_link : {Header : Type 0} {Is : Parts Header → Type 0} {Refuses : SliceError → Type 0}
    (layer_of : Parts Header → LinkLayer) (Next : Parts Header → Inside → Type 0) → IsDecided Is Refuses
    → ((frame : Parts Header) → Is frame → IsOne (Next frame))
    → IsDecided (λ (layers : LaxLayers). (frame : Parts Header) × Is frame × (layers.link ≡ Some (layer_of frame))
    × Next frame (layers.link_exts, layers.net)) Refuses
after_link {Header = Header} layer_of Next decided one =
    decided_as (λ (read : Parts Header × Inside). with_link (layer_of read.0) read.1) (λ (error : SliceError). error)
    (decided_after {Next = Next} decided one)
    (record {
      present = λ read is. (read.0, is.0, refl, is.1);
      back = λ layers is. (
        (is.0, (layers.link_exts, layers.net)),
        (is.1, is.3),
        λ i. record { link = is.2 i; link_exts = layers.link_exts; net = layers.net },
      );
    })
    (same_image (λ error refused. refused) (λ error refused. refused))

pub lax_in_decided : (reading : Reading) (entry : Entry) (bytes : List ℕ) → AreBytes bytes
    → IsDecided (IsLaxIn reading entry bytes) (RefusesLax entry bytes)
lax_in_decided reading ethernet bytes fits =
    after_link (λ (frame : Parts Ethernet2Header). ethernet2 frame.header frame.payload)
    (λ frame. HoldsLax reading most_link_exts ethernet2_header_len false (Some frame.header.ether_type) frame.payload)
    (refused_as Len (layer_laws.ethernet2 bytes fits))
    (λ frame is. lax_inside_is_one reading most_link_exts ethernet2_header_len false (Some frame.header.ether_type) frame.payload
    (AreBytes-payload bytes (ethernet2_bytes frame.header) frame.payload frame.left fits is.parts))
lax_in_decided reading linux_sll bytes fits =
    after_link (λ (frame : Parts LinuxSllHeader). sll frame.header frame.payload)
    (λ frame. HoldsLax reading most_link_exts linux_sll_header_len false (protocol_ether_type frame.header.protocol_type)
    frame.payload)
    (refused_as linux_sll_refusal (layer_laws.linux_sll bytes fits))
    (λ frame is. lax_inside_is_one reading most_link_exts linux_sll_header_len false
    (protocol_ether_type frame.header.protocol_type) frame.payload
    (AreBytes-payload bytes (linux_sll_bytes frame.header) frame.payload frame.left fits is.parts))
lax_in_decided reading (ether_type type) bytes fits =
    let one = lax_inside_is_one reading most_link_exts 0 false (Some type) bytes fits in
    decided_by (with_link (ether_payload type source.Slice bytes) one.value) (refl, one.is)
    (λ layers is.
    let same = one.only (layers.link_exts, layers.net) is.1 in
    λ i. record { link = is.0 i; link_exts = (same i).0; net = (same i).1 })
    (λ error refused. refused)
lax_in_decided reading ip bytes fits =
    decided_as without_link (λ (error : SliceError). error)
    (refused_as ip_header_refusal (open_version_decided reading bytes fits))
    (record {
      present = λ net is. (refl, refl, is);
      back = λ layers is. (
        layers.net,
        is.2,
        λ i. record { link = is.0 i; link_exts = is.1 i; net = layers.net },
      );
    })
    (same_image (λ error refused. refused) (λ error refused. refused))

pub lax_decided : (entry : Entry) (bytes : List ℕ) → AreBytes bytes
    → IsDecided (IsLax entry bytes) (RefusesLax entry bytes)
lax_decided = lax_in_decided slices
