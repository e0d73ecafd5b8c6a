-- The bytes of a frame at the offsets that C gets.
use Rattle.std.proofs.Common.{◌≡◌, ℕ, ◌+◌, ◌-◌, ◌≤◌, List, [], ◌∷◌, ◌++◌, length, take, drop, refl, sym, ap, subst}
use Rattle.std.proofs.Common.{◌∙◌, arith, append_assoc, length-append}
use Rattle.std.proofs.Math.Seq.{drop-append_seam, take-append_seam}
use Rattle.etherparse.specs.LinkExtensions.{LinkExtension, EncodesTag}
use Rattle.etherparse.specs.TransportParts.{EncodesTransport}
use Rattle.etherparse.specs.Types.Entry.{Entry}
use Rattle.etherparse.specs.Frame.{IsFrame}
use Rattle.etherparse.specs.FrameBytes.{AreInOrder, EncodesLink, EncodesNet, EncodesTags, last_payload}
use Rattle.etherparse.specs.Lax.{IsLax}
use Rattle.etherparse.specs.LaxLayers.{LaxLayers}
use Rattle.etherparse.specs.Layers.{Layers}
use Rattle.etherparse.specs.StrictFrames.{layers_in}
use Rattle.etherparse_c.specs.declared.packet.Packet.{Packet}
use Rattle.etherparse_c.specs.Description.{description, link_len, net_len, net_offset, payload_offset, tag_len}
use Rattle.etherparse_c.specs.Description.{transport_len, transport_offset}
use Rattle.etherparse_c.specs.LaxAnswers.{DescribesLax, lax_description}
use Rattle.etherparse_c.specs.Places.{AreAt, AreTagsAt, Describes, HeaderLens, bytes_at}

-- The bytes after `offset` other bytes are the bytes at that offset.
bytes_after : (bytes before part after : List ℕ) (offset len : ℕ) → bytes ≡ before ++ (part ++ after)
    → length before ≡ offset → length part ≡ len → bytes_at bytes offset len ≡ part
bytes_after bytes before part after offset len same before_len part_len =
    let part_length : (offset + len) - offset ≡ length part = omega (arith, part_len) in
    let rest : drop offset bytes ≡ part ++ after =
    ap (λ (b : List ℕ). drop offset b) same
    ∙ ap (λ (n : ℕ). drop n (before ++ (part ++ after))) (sym before_len) ∙ drop-append_seam before (part ++ after) in
    ap (λ (n : ℕ). take n (drop offset bytes)) part_length ∙ ap (λ (b : List ℕ). take (length part) b) rest
    ∙ take-append_seam part after

-- Encoded tags after other bytes are the tags at that offset.
tags_after : HeaderLens → (bytes before tags after : List ℕ) (offset : ℕ) (extensions : List LinkExtension)
    → bytes ≡ before ++ (tags ++ after) → length before ≡ offset → EncodesTags extensions tags
    → AreTagsAt bytes offset extensions
tags_after laws bytes before tags after offset [] same before_len encodes = tt
tags_after laws bytes before tags after offset (extension ∷ others) same before_len (tag, rest, first, more, parts) =
    let split : bytes ≡ before ++ (tag ++ (rest ++ after)) =
    same ∙ ap (λ (x : List ℕ). before ++ (x ++ after)) parts
    ∙ ap (λ (x : List ℕ). before ++ x) (append_assoc tag rest after) in
    let len = laws.tag extension tag first in (
      subst (EncodesTag extension)
          (sym (bytes_after bytes before tag (rest ++ after) offset (tag_len extension) split before_len len)) first,
      tags_after laws bytes (before ++ tag) rest after (offset + tag_len extension) others
          (split ∙ sym (append_assoc before tag (rest ++ after)))
          (length-append before tag ∙ omega (arith, before_len, len)) more,
    )

-- The lengths of the headers of a frame, added up from the first header on, are the offsets of its layers.
record Lens (bytes : List ℕ) (layers : Layers) (order : AreInOrder bytes layers) : Type 0 where
  link : length order.link ≡ link_len layers.link
  tags : length (order.link ++ order.tags) ≡ net_offset layers
  net : length ((order.link ++ order.tags) ++ order.net) ≡ transport_offset layers
  transport : length (((order.link ++ order.tags) ++ order.net) ++ order.transport) ≡ payload_offset layers

lens : HeaderLens → (bytes : List ℕ) (layers : Layers) (order : AreInOrder bytes layers) → Lens bytes layers order
lens laws bytes layers order =
    let link = laws.link layers.link order.link order.link_header in
    let tags = laws.tags layers.link_exts order.tags order.tag_headers in
    let net = laws.net layers.net order.net order.net_header in
    let transport = laws.transport layers.transport order.transport order.transport_header in
    let two = length-append order.link order.tags in
    let three = length-append (order.link ++ order.tags) order.net in
    let four = length-append ((order.link ++ order.tags) ++ order.net) order.transport in
    record {
      link = link;
      tags = omega (arith, link, tags, two);
      net = omega (arith, link, tags, two, net, three);
      transport = omega (arith, link, tags, two, net, three, transport, four);
    }

-- The bytes of a frame, split before each layer.
record Grouped (bytes : List ℕ) (layers : Layers) (order : AreInOrder bytes layers) : Type 0 where
  net : bytes ≡ (order.link ++ order.tags) ++ (order.net ++ (order.transport ++ (last_payload layers ++ order.left)))
  transport : bytes
      ≡ ((order.link ++ order.tags) ++ order.net) ++ (order.transport ++ (last_payload layers ++ order.left))
  payload : bytes
      ≡ (((order.link ++ order.tags) ++ order.net) ++ order.transport) ++ (last_payload layers ++ order.left)

grouped : (bytes : List ℕ) (layers : Layers) (order : AreInOrder bytes layers) → Grouped bytes layers order
grouped bytes layers order =
    let net = order.parts ∙ sym (append_assoc order.link order.tags _) in
    let transport = net ∙ sym (append_assoc (order.link ++ order.tags) order.net _) in
    record {
      net = net;
      transport = transport;
      payload = transport ∙ sym (append_assoc ((order.link ++ order.tags) ++ order.net) order.transport _);
    }

-- The payload of the last layer ends within the bytes.
pub within : HeaderLens → (bytes : List ℕ) (layers : Layers) → AreInOrder bytes layers
    → payload_offset layers + length (last_payload layers) ≤ length bytes
within laws bytes layers order = omega (
  arith,
  ap length (grouped bytes layers order).payload,
  (lens laws bytes layers order).transport,
  length-append (((order.link ++ order.tags) ++ order.net) ++ order.transport) (last_payload layers ++ order.left),
  length-append (last_payload layers) order.left,
)

-- The layers of a frame are at the offsets of its description.
pub are_at : HeaderLens → (bytes : List ℕ) (layers : Layers) → AreInOrder bytes layers
    → AreAt bytes layers (description layers)
are_at laws bytes layers order =
    let len = lens laws bytes layers order in
    let group = grouped bytes layers order in
    record {
      link = subst (EncodesLink layers.link)
          (sym (bytes_after bytes [] order.link _ 0 (link_len layers.link) order.parts refl len.link))
          order.link_header;
      tags = tags_after laws bytes order.link order.tags _ (link_len layers.link) layers.link_exts order.parts len.link
          order.tag_headers;
      net = subst (EncodesNet layers.net)
          (sym (bytes_after bytes (order.link ++ order.tags) order.net _ (net_offset layers) (net_len layers.net)
          group.net len.tags (laws.net layers.net order.net order.net_header)))
          order.net_header;
      transport = subst (EncodesTransport layers.transport)
          (sym (bytes_after bytes ((order.link ++ order.tags) ++ order.net) order.transport _
          (transport_offset layers) (transport_len layers.transport) group.transport len.net
          (laws.transport layers.transport order.transport order.transport_header)))
          order.transport_header;
      payload = sym (bytes_after bytes (((order.link ++ order.tags) ++ order.net) ++ order.transport)
          (last_payload layers) _ (payload_offset layers) (length (last_payload layers)) group.payload len.transport
          refl);
    }

-- A packet that is equal to the description of a frame describes it.
pub places : HeaderLens → (entry : Entry) (bytes : List ℕ) (layers : Layers) (packet : Packet)
    → IsFrame entry bytes layers → AreInOrder bytes layers → packet ≡ description layers
    → Describes entry bytes layers packet
places laws entry bytes layers packet frame order same =
    subst (Describes entry bytes layers) (sym same) (record {
      frame = frame;
      numbers = refl;
      places = are_at laws bytes layers order;
    })

-- A packet that is equal to the description of a lax packet describes it.
pub lax_offsets : HeaderLens → (entry : Entry) (bytes : List ℕ) (read : LaxLayers) (packet : Packet)
    → IsLax entry bytes read → AreInOrder bytes (layers_in read) → packet ≡ lax_description read
    → DescribesLax entry bytes read packet
lax_offsets laws entry bytes read packet is order same =
    let at = are_at laws bytes (layers_in read) order in
    subst (DescribesLax entry bytes read) (sym same) (record {
      is = is;
      numbers = refl;
      places = record {
        link = at.link;
        tags = at.tags;
        net = at.net;
        transport = at.transport;
        payload = at.payload;
      };
    })
