-- The bytes of a frame are the headers of its layers in order, the payload of the last layer, and trailing bytes: one
-- lemma for each kind of layer, from the transport layer outwards. Strict and lax reading share them.
use Rattle.std.proofs.Common.{◌≡◌, ℕ, List, [], ◌∷◌, ◌++◌, Option, Some, None, refl, sym, ap, subst, ◌∙◌, append_assoc}
use Rattle.std.proofs.lemmas.List.{append-nil}
use Rattle.ep_link.specs.LinkExtensions.{LinkExtension, EncodesTag, extension_payload}
use Rattle.ep_link.specs.LinkSlices.{LinkLayer}
use Rattle.ep_transport.specs.TransportParts.{TransportLayer, EncodesTransport, AreTransport, payload_in}
use Rattle.ep_packet.specs.Layers.{NetLayer, ipv4, ipv6, arp, Layers}
use Rattle.ep_packet.specs.FrameBytes.{EncodesLink, EncodesTags, EncodesNet, after_net, link_payload, payload_after_exts, inner_payload, AreInOrder}

-- A header, its payload and trailing bytes are the header and the rest.
regroup : (bytes header payload left : List ℕ) → bytes ≡ (header ++ payload) ++ left
    → bytes ≡ header ++ (payload ++ left)
regroup bytes header payload left parts = parts ∙ append_assoc header payload left

-- The payload of a network layer does not depend on the bytes that the layer is read from.
layer_payload : (bytes others : List ℕ) (layer : NetLayer)
    → after_net bytes (Some layer) ≡ after_net others (Some layer)
layer_payload bytes others (ipv4 header extensions payload) = refl
layer_payload bytes others (ipv6 header extensions payload) = refl
layer_payload bytes others (arp packet) = refl

net_layer_payload : (bytes others : List ℕ) (net : Option NetLayer) (layer : NetLayer) → net ≡ Some layer
    → after_net bytes net ≡ after_net others net
net_layer_payload bytes others net layer net_is =
    subst (λ (x : Option NetLayer). after_net bytes x ≡ after_net others x) (sym net_is)
    (layer_payload bytes others layer)

-- The bytes after a link header are the tags of the link extensions, the headers of the network and of the transport
-- layer, the payload of the last layer, and trailing bytes.
pub record InsideBytes (bytes : List ℕ) (extensions : List LinkExtension)
    (net : Option NetLayer) (transport : Option TransportLayer) : Type 0 where
  pub tags : List ℕ
  pub net_header : List ℕ
  pub transport_header : List ℕ
  pub left : List ℕ
  pub tags_encode : EncodesTags extensions tags
  pub net_encodes : EncodesNet net net_header
  pub transport_encodes : EncodesTransport transport transport_header
  pub parts : bytes ≡ tags
      ++ (net_header ++ (transport_header ++ (inner_payload (payload_after_exts bytes extensions) net transport ++ left)))

-- Bytes without layers are payload.
pub no_layer_bytes : (bytes : List ℕ) → InsideBytes bytes [] None None
no_layer_bytes bytes = record {
  tags = [];
  net_header = [];
  transport_header = [];
  left = [];
  tags_encode = refl;
  net_encodes = refl;
  transport_encodes = refl;
  parts = sym (append-nil bytes);
}

-- The bytes of a network layer, with the transport layer in its payload, are in order.
pub net_layer_bytes : (bytes header left : List ℕ) (layer : NetLayer) (transport : Option TransportLayer)
    → EncodesNet (Some layer) header → bytes ≡ (header ++ after_net [] (Some layer)) ++ left
    → AreTransport (after_net [] (Some layer)) transport → InsideBytes bytes [] (Some layer) transport
net_layer_bytes bytes header left layer transport encodes parts inside = record {
  tags = [];
  net_header = header;
  transport_header = inside.header;
  left = inside.left ++ left;
  tags_encode = refl;
  net_encodes = encodes;
  transport_encodes = inside.encodes;
  parts = regroup bytes header (after_net [] (Some layer)) left parts
      ∙ ap (λ (x : List ℕ). header ++ (x ++ left)) inside.parts
      ∙ ap (λ (x : List ℕ). header ++ x) (simp append_assoc)
      ∙ ap (λ (x : List ℕ). header ++ (inside.header ++ (payload_in x transport ++ (inside.left ++ left))))
      (layer_payload [] bytes layer);
}

-- The bytes of a link extension, with the layers in its payload, are in order.
pub tagged_bytes : (bytes tag left : List ℕ) (extension : LinkExtension) (others : List LinkExtension)
    (net : Option NetLayer) (transport : Option TransportLayer) → EncodesTag extension tag
    → bytes ≡ (tag ++ extension_payload extension) ++ left
    → InsideBytes (extension_payload extension) others net transport
    → InsideBytes bytes (extension ∷ others) net transport
tagged_bytes bytes tag left extension others net transport encodes parts inside = record {
  tags = tag ++ inside.tags;
  net_header = inside.net_header;
  transport_header = inside.transport_header;
  left = inside.left ++ left;
  tags_encode = (tag, inside.tags, encodes, inside.tags_encode, refl);
  net_encodes = inside.net_encodes;
  transport_encodes = inside.transport_encodes;
  parts = regroup bytes tag (extension_payload extension) left parts
      ∙ ap (λ (x : List ℕ). tag ++ (x ++ left)) inside.parts
      ∙ simp append_assoc;
}

-- The bytes of a link layer, with the layers in its payload, are in order.
pub frame_bytes : (bytes header left : List ℕ) (link : LinkLayer) (layers : Layers) → EncodesLink (Some link) header
    → bytes ≡ (header ++ link_payload (Some link)) ++ left → layers.link ≡ Some link
    → InsideBytes (link_payload (Some link)) layers.link_exts layers.net layers.transport → AreInOrder bytes layers
frame_bytes bytes header left link layers encodes parts link_is inside = record {
  link = header;
  tags = inside.tags;
  net = inside.net_header;
  transport = inside.transport_header;
  left = inside.left ++ left;
  link_header = subst (λ (x : Option LinkLayer). EncodesLink x header) (sym link_is) encodes;
  tag_headers = inside.tags_encode;
  net_header = inside.net_encodes;
  transport_header = inside.transport_encodes;
  parts = regroup bytes header (link_payload (Some link)) left parts
      ∙ ap (λ (x : List ℕ). header ++ (x ++ left)) inside.parts
      ∙ ap (λ (x : List ℕ). header ++ x) (simp append_assoc)
      ∙ ap (λ (x : Option LinkLayer). header ++ (inside.tags ++ (inside.net_header ++ (inside.transport_header
      ++ (inner_payload (payload_after_exts (link_payload x) layers.link_exts) layers.net layers.transport
      ++ (inside.left ++ left)))))) (sym link_is);
}

-- The bytes of an IP packet without a link layer are in order.
pub ip_bytes : (bytes : List ℕ) (layers : Layers) (layer : NetLayer) → layers.link ≡ None → layers.link_exts ≡ []
    → layers.net ≡ Some layer → InsideBytes bytes [] layers.net layers.transport → AreInOrder bytes layers
ip_bytes bytes layers layer no_link no_tags net_is inside = record {
  link = [];
  tags = inside.tags;
  net = inside.net_header;
  transport = inside.transport_header;
  left = inside.left;
  link_header = subst (λ (x : Option LinkLayer). EncodesLink x []) (sym no_link) refl;
  tag_headers = subst (λ (x : List LinkExtension). EncodesTags x inside.tags) (sym no_tags) inside.tags_encode;
  net_header = inside.net_encodes;
  transport_header = inside.transport_encodes;
  parts = inside.parts
      ∙ ap (λ (x : List ℕ). inside.tags ++ (inside.net_header ++ (inside.transport_header
      ++ (payload_in x layers.transport ++ inside.left))))
      (net_layer_payload bytes (payload_after_exts (link_payload layers.link) layers.link_exts) layers.net layer net_is);
}
