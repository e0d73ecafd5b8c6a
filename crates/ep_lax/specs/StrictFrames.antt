-- Lax slicing of valid frames.
use Rattle.std.specs.Prelude.{◌≡◌, Bool, false, List, [], ◌∷◌, map, None}
use Rattle.ep_link.specs.LinkExtensions.{LinkExtension}
use Rattle.ep_packet.specs.Layers.{Layers}
use Rattle.ep_lax.specs.LaxLayers.{LaxLayers}

-- The link extension, whether or not bytes of its payload are missing.
abbrev pub extension_in : LinkExtension × Bool → LinkExtension
extension_in tagged = tagged.0

-- The layers, whether or not bytes of their payloads are missing.
abbrev pub layers_in : LaxLayers → Layers
layers_in read = record {
  link = read.link;
  link_exts = map extension_in read.link_exts;
  net = read.net.layer;
  transport = read.net.inside.layer;
}

-- No byte of the payload of these link extensions is missing.
abbrev pub AreWhole : List (LinkExtension × Bool) → Type 0
AreWhole [] = Unit {0}
AreWhole (tagged ∷ others) = (tagged.1 ≡ false) × AreWhole others

-- No byte of any payload is missing, and slicing did not stop at an error.
pub record IsWhole (read : LaxLayers) : Type 0 where
  pub extensions : AreWhole read.link_exts
  pub net : read.net.incomplete ≡ false
  pub inside : read.net.inside.incomplete ≡ false
  pub stop : read.net.inside.stop ≡ None
