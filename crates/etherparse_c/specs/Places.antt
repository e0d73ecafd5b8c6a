-- The bytes of a frame at the offsets that C gets.
use Rattle.std.specs.Prelude.{◌≡◌, ℕ, ◌+◌, List, [], ◌∷◌, length, Option}
use Rattle.std.specs.List.{slice_range}
use Rattle.etherparse.specs.LinkExtensions.{LinkExtension, EncodesTag}
use Rattle.etherparse.specs.LinkSlices.{LinkLayer}
use Rattle.etherparse.specs.TransportParts.{TransportLayer, EncodesTransport}
use Rattle.etherparse.specs.Types.Entry.{Entry}
use Rattle.etherparse.specs.Frame.{IsFrame}
use Rattle.etherparse.specs.FrameBytes.{EncodesLink, EncodesNet, EncodesTags, last_payload}
use Rattle.etherparse.specs.Layers.{Layers, NetLayer}
use Rattle.etherparse_c.specs.declared.packet.Packet.{Packet}
use Rattle.etherparse_c.specs.Description.{description, link_len, net_len, tag_len, tags_len, transport_len}

-- `len` bytes from an offset on
abbrev pub bytes_at : List ℕ → ℕ → ℕ → List ℕ
bytes_at bytes offset len = slice_range bytes offset (offset + len)

-- The tags follow one another in the bytes, the first at this offset.
abbrev pub AreTagsAt : List ℕ → ℕ → List LinkExtension → Type 0
AreTagsAt bytes offset [] = Unit {0}
AreTagsAt bytes offset (extension ∷ others) =
    EncodesTag extension (bytes_at bytes offset (tag_len extension))
    × AreTagsAt bytes (offset + tag_len extension) others

-- The bytes at the offset of each header are that header, up to its reserved bits, and the bytes at the offset of the
-- payload are the payload.
pub record AreAt (bytes : List ℕ) (layers : Layers) (packet : Packet) : Type 0 where
  pub link : EncodesLink layers.link (bytes_at bytes packet.link.offset packet.link.len)
  pub tags : AreTagsAt bytes packet.link.len layers.link_exts
  pub net : EncodesNet layers.net (bytes_at bytes packet.net.offset packet.net.len)
  pub transport : EncodesTransport layers.transport (bytes_at bytes packet.transport.offset packet.transport.len)
  pub payload : last_payload layers ≡ bytes_at bytes packet.payload.offset packet.payload.len

-- The bytes are a frame with these layers, and the packet describes them and their offsets (`AreAt`).
pub record Describes (entry : Entry) (bytes : List ℕ) (layers : Layers) (packet : Packet) : Type 0 where
  pub frame : IsFrame entry bytes layers
  pub numbers : packet ≡ description layers
  pub places : AreAt bytes layers packet

-- The library's law of headers: the bytes that encode a header have the header's length.
pub record HeaderLens : Type 0 where
  pub link : (layer : Option LinkLayer) (bytes : List ℕ) → EncodesLink layer bytes → length bytes ≡ link_len layer
  pub tag : (extension : LinkExtension) (bytes : List ℕ) → EncodesTag extension bytes
      → length bytes ≡ tag_len extension
  pub tags : (extensions : List LinkExtension) (bytes : List ℕ) → EncodesTags extensions bytes
      → length bytes ≡ tags_len extensions
  pub net : (layer : Option NetLayer) (bytes : List ℕ) → EncodesNet layer bytes → length bytes ≡ net_len layer
  pub transport : (layer : Option TransportLayer) (bytes : List ℕ) → EncodesTransport layer bytes
      → length bytes ≡ transport_len layer
