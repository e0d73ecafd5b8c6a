-- Payload after the link layer and its extensions of a packet sliced laxly.
use Rattle.std.specs.Prelude.{ℕ, Bool, false, List, [], ◌∷◌, map, Option}
use Rattle.std.specs.Option.{option_map, option_and_then}
use Rattle.ep_base.specs.Readings.{limited_by}
use Rattle.ep_base.specs.declared.ether_type.EtherType.{EtherType}
use Rattle.ep_base.specs.declared.len_source.LenSource.{LenSource}
use Rattle.ep_base.specs.declared.len_source.LenSource.TheVariants as source
use Rattle.ep_link.specs.declared.link_ext.single_vlan_slice.SingleVlanSlice.{SingleVlanSlice}
use Rattle.ep_link.specs.EtherPayloads.{EtherPayload}
use Rattle.ep_link.specs.LinkExtensions.{LinkExtension, vlan, macsec, extension_payload, extension_type}
use Rattle.ep_link.specs.LinkSlices.{LinkLayer, link_ether_payload}
use Rattle.ep_link.specs.Macsec.{unmodified, modified}
use Rattle.ep_lax.specs.declared.lax_ether_payload_slice.LaxEtherPayloadSlice.{LaxEtherPayloadSlice}
use Rattle.ep_lax.specs.declared.lax_link_ext_slice.LaxLinkExtSlice.{LaxLinkExtSlice}
use Rattle.ep_lax.specs.declared.lax_link_ext_slice.LaxLinkExtSlice.TheVariants as extension
use Rattle.ep_lax.specs.LaxLayers.{LaxLayers}
use Rattle.ep_lax.specs.StrictFrames.{extension_in}

-- A payload with its ether type, and whether bytes of it are missing.
pub record LaxEtherPayload : Type 0 where
  pub ether_type : EtherType
  pub len_source : LenSource
  pub bytes : List ℕ
  pub incomplete : Bool

-- The payload that a slice contains.
abbrev pub lax_ether_payload_of : LaxEtherPayloadSlice → LaxEtherPayload
lax_ether_payload_of slice = record {
  ether_type = slice.ether_type;
  len_source = slice.len_source;
  bytes = slice.payload.now;
  incomplete = slice.incomplete;
}

-- The payload of a link layer; no field states that bytes of it are missing.
abbrev pub complete_payload : EtherPayload → LaxEtherPayload
complete_payload payload = record {
  ether_type = payload.ether_type;
  len_source = payload.len_source;
  bytes = payload.bytes;
  incomplete = false;
}

-- The source of the length of an extension's payload. `outer` is the source of the length of the enclosing bytes.
abbrev pub extension_source : LenSource → LinkExtension → LenSource
extension_source outer (vlan tag payload) = outer
extension_source outer (macsec tag (unmodified type end bytes)) = limited_by outer end
extension_source outer (macsec tag (modified bytes)) = outer

-- The source of the length of the payload of the last extension, each in the payload of the one before it.
abbrev pub source_after : LenSource → List LinkExtension → LenSource
source_after outer [] = outer
source_after outer (extension ∷ others) = source_after (extension_source outer extension) others

-- The last of some link extensions, starting with the first.
abbrev pub last_after : LinkExtension × Bool → List (LinkExtension × Bool) → LinkExtension × Bool
last_after first [] = first
last_after first (next ∷ others) = last_after next others

-- The payload of an extension with this source of its length and this ether type.
abbrev pub typed_payload : LenSource → LinkExtension × Bool → EtherType → LaxEtherPayload
typed_payload end tagged type = record {
  ether_type = type;
  len_source = end;
  bytes = extension_payload tagged.0;
  incomplete = tagged.1;
}

-- The payload of an extension with this source of its length, if its ether type is known.
abbrev pub payload_of_tagged : LenSource → LinkExtension × Bool → Option LaxEtherPayload
payload_of_tagged end tagged = option_map (typed_payload end tagged) (extension_type tagged.0)

-- The payload of the last extension, or else of the link layer, if its ether type is known. With extensions, the source
-- of the length is the short length of a MACsec tag that limits them, or else the end of the slice.
abbrev pub lax_ether_payload_after : Option LinkLayer → List (LinkExtension × Bool) → Option LaxEtherPayload
lax_ether_payload_after link [] = option_map complete_payload (option_and_then link_ether_payload link)
lax_ether_payload_after link (first ∷ others) =
    payload_of_tagged (source_after source.Slice (map extension_in (first ∷ others))) (last_after first others)

-- The payload after the link layer and its extensions.
abbrev pub lax_ether_payload_in : LaxLayers → Option LaxEtherPayload
lax_ether_payload_in layers = lax_ether_payload_after layers.link layers.link_exts

-- The VLAN tags among the link extensions, from the outside in.
abbrev pub lax_vlan_slices : List LaxLinkExtSlice → List SingleVlanSlice
lax_vlan_slices [] = []
lax_vlan_slices (extension.Vlan tag ∷ others) = tag ∷ lax_vlan_slices others
lax_vlan_slices (extension.Macsec packet ∷ others) = lax_vlan_slices others
