-- The packet that an ICMP error quotes.
use Rattle.std.specs.Prelude.{◌≡◌, ◌⊎◌, ℕ, Bool, List, [], ◌++◌, Option, Some, None, codes}
use Rattle.std.specs.Option.{option_and_then, option_map}
use Rattle.etherparse.specs.Lax.{IsLax}
use Rattle.etherparse.specs.LaxLayers.{LaxLayers}
use Rattle.etherparse.specs.LaxRefusals.{RefusesLax}
use Rattle.etherparse.specs.Layers.{Layers}
use Rattle.etherparse.specs.QuotedPackets.{quoted_in}
use Rattle.etherparse.specs.StrictFrames.{layers_in}
use Rattle.etherparse.specs.TransportParts.{transport_layer_of}
use Rattle.etherparse.specs.Types.Entry.TheVariants.{Ip}
use Rattle.etherparse.specs.Types.LaxSlicedPacket.{LaxSlicedPacket}
use Rattle.etherparse.specs.Types.Layer.{Layer}
use Rattle.etherparse.specs.Types.SliceError.{SliceError}
use Rattle.packet_text.specs.LayerTexts.{incomplete_text, inner_in, outer_text, refused_start_text}

-- the payload of the outer layers of a quoted packet, which is mostly truncated: if a layer is rejected, the known
-- fields of its header
abbrev pub quoted_rest : Bool → Layers → Option (SliceError × Layer) → List ℕ
quoted_rest incomplete layers None = inner_in incomplete layers
quoted_rest incomplete layers (Some stop) = refused_start_text layers.net

-- a quoted packet: its layers as in a line of its own, but without the error at which they end
abbrev pub quoted_text : LaxLayers → List ℕ
quoted_text read =
    codes " quotes" ++ outer_text (layers_in read)
    ++ quoted_rest read.net.inside.incomplete (layers_in read) read.net.inside.stop
    ++ incomplete_text read.net.inside.incomplete

-- The text is that of the packet at the start of quoted bytes, or empty if they are no IP packet.
abbrev pub IsQuote : List ℕ → List ℕ → Type 0
IsQuote bytes text =
    ((error : SliceError) × RefusesLax Ip bytes error × (text ≡ []))
    ⊎ ((read : LaxLayers) × IsLax Ip bytes read × (text ≡ quoted_text read))

-- The text is that of the quoted packet, or empty without quoted bytes.
abbrev pub IsQuoteOf : Option (List ℕ) → List ℕ → Type 0
IsQuoteOf None text = text ≡ []
IsQuoteOf (Some bytes) text = IsQuote bytes text

-- the bytes of the packet that an ICMP error quotes
abbrev pub quoted_by : LaxSlicedPacket → Option (List ℕ)
quoted_by slices = option_and_then quoted_in (option_map transport_layer_of slices.transport)
