-- Layers sliced laxly, as plain data.
use Rattle.std.specs.Prelude.{ℕ, Bool, false, List, [], Option, Some, None}
use Rattle.ep_base.specs.declared.err.layer.Layer.{Layer}
use Rattle.ep_base.specs.declared.err.layer.Layer.TheVariants as layer
use Rattle.ep_base.specs.declared.err.ipv6_exts.HeaderError.TheVariants as content
use Rattle.ep_link.specs.LinkExtensions.{LinkExtension}
use Rattle.ep_link.specs.LinkSlices.{LinkLayer}
use Rattle.ep_transport.specs.declared.transport_header.TransportHeader.{TransportHeader}
use Rattle.ep_transport.specs.TransportParts.{TransportLayer, transport_layer}
use Rattle.ep_packet.specs.declared.err.slice_error.SliceError.{SliceError}
use Rattle.ep_packet.specs.declared.err.slice_error.SliceError.TheVariants.{Len, LinuxSll, Macsec, Ip, Ipv4, Ipv6, Ipv4Exts, Ipv6Exts, Tcp}
use Rattle.ep_packet.specs.Layers.{NetLayer}

-- The transport layer, if present, whether bytes of the last payload are missing, and the error and layer at which
-- slicing stopped, if any.
pub record LaxTransport : Type 0 where
  pub layer : Option TransportLayer
  pub incomplete : Bool
  pub stop : Option (SliceError × Layer)

-- The network layer, if present, whether bytes of its payload are missing, and the layers in it.
pub record LaxNet : Type 0 where
  pub layer : Option NetLayer
  pub incomplete : Bool
  pub inside : LaxTransport

-- The layers; each link extension states whether bytes of its payload are missing.
pub record LaxLayers : Type 0 where
  pub link : Option LinkLayer
  pub link_exts : List (LinkExtension × Bool)
  pub net : LaxNet

-- No transport layer, in a payload that is incomplete or not.
abbrev pub no_transport : Bool → Option (SliceError × Layer) → LaxTransport
no_transport outer stop = record { layer = None; incomplete = outer; stop = stop }

-- A transport layer with this header and payload, which is incomplete or not.
abbrev pub layer_cut : TransportHeader → List ℕ → Bool → LaxTransport
layer_cut header payload incomplete =
    record { layer = Some (transport_layer header payload); incomplete = incomplete; stop = None }

-- A network layer whose payload is incomplete or not, and the layers in it.
abbrev pub net_with : NetLayer → Bool → LaxTransport → LaxNet
net_with layer incomplete inside = record { layer = Some layer; incomplete = incomplete; inside = inside }

-- No network layer, in bytes that are incomplete or not.
abbrev pub no_net : Bool → Option (SliceError × Layer) → LaxNet
no_net outer stop = record { layer = None; incomplete = outer; inside = no_transport outer stop }

-- No layers, in complete bytes.
abbrev pub no_lax_layers : LaxLayers
no_lax_layers = record { link = None; link_exts = []; net = no_net false None }

-- The layer that an error is about.
abbrev pub stop_layer : SliceError → Layer
stop_layer (Len error) = error.layer
stop_layer (LinuxSll error) = layer.LinuxSllHeader
stop_layer (Macsec error) = layer.MacsecHeader
stop_layer (Ip error) = layer.IpHeader
stop_layer (Ipv4 error) = layer.Ipv4Header
stop_layer (Ipv6 error) = layer.Ipv6Header
stop_layer (Ipv4Exts error) = layer.IpAuthHeader
stop_layer (Ipv6Exts content.HopByHopNotAtStart) = layer.Ipv6ExtHeader
stop_layer (Ipv6Exts (content.IpAuth error)) = layer.IpAuthHeader
stop_layer (Tcp error) = layer.TcpHeader

-- An error and the layer that it is about.
abbrev pub error_with_layer : SliceError → SliceError × Layer
error_with_layer error = (error, stop_layer error)
