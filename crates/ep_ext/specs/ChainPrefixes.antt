-- Chains read up to the first invalid header.
use Rattle.std.specs.Prelude.{◌≡◌, ℕ, List, [], ◌∷◌, Option, Some, None}
use Rattle.ep_base.specs.Readings.{Reading, slices}
use Rattle.ep_base.specs.declared.err.ipv6_exts.HeaderError.TheVariants as content
use Rattle.ep_base.specs.declared.err.ipv6_exts.HeaderSliceError.{HeaderSliceError}
use Rattle.ep_base.specs.declared.err.ipv6_exts.HeaderSliceError.TheVariants as header_error
use Rattle.ep_base.specs.declared.err.layer.Layer.{Layer}
use Rattle.ep_base.specs.declared.err.layer.Layer.TheVariants as layer
use Rattle.ep_ext.specs.Chains.{IpVersion, ExtensionChain, IsExtensionChain, RefusesChainAfter}
use Rattle.ep_ext.specs.ExtensionParts.{ExtensionPart, IsExtensionPart, part_next}

-- The bytes, starting with the header of IP number `number`, begin with these headers. The bytes after the headers are
-- `rest`, of IP number `last`.
abbrev pub BeginWithParts : ℕ → List ℕ → List ExtensionPart → ℕ → List ℕ → Type 0
BeginWithParts number bytes [] last rest = (last ≡ number) × (rest ≡ bytes)
BeginWithParts number bytes (part ∷ parts) last rest =
    (after : List ℕ) × IsExtensionPart number bytes part after × BeginWithParts (part_next part) after parts last rest

-- The result of lax parsing, in the given reading. Without an error the bytes are a chain. With an error the headers
-- before the invalid one are valid, and the chain's number and remaining bytes are those of the invalid header.
abbrev pub IsLaxChainIn : IpVersion → Reading → ℕ → List ℕ → ExtensionChain → Option HeaderSliceError → Type 0
IsLaxChainIn version reading number bytes chain None = IsExtensionChain version reading number bytes chain
IsLaxChainIn version reading number bytes chain (Some error) =
    RefusesChainAfter version reading [] 0 number bytes chain.parts error
    × BeginWithParts number bytes chain.parts chain.last chain.rest

-- The result of lax parsing, in the reading as slices.
abbrev pub IsLaxChain : IpVersion → ℕ → List ℕ → ExtensionChain → Option HeaderSliceError → Type 0
IsLaxChain version = IsLaxChainIn version slices

-- The layer of the invalid header: the truncated one, an authentication header, or Hop-by-Hop options.
abbrev pub chain_stop_layer : HeaderSliceError → Layer
chain_stop_layer (header_error.Len error) = error.layer
chain_stop_layer (header_error.Content content.HopByHopNotAtStart) = layer.Ipv6ExtHeader
chain_stop_layer (header_error.Content (content.IpAuth error)) = layer.IpAuthHeader

-- The error with the layer of the invalid header.
abbrev pub chain_stop : HeaderSliceError → HeaderSliceError × Layer
chain_stop error = (error, chain_stop_layer error)
