-- Lemmas about the bytes of a chain of extension headers.
use Rattle.std.proofs.Common.{◌≡◌, ℕ, ◌+◌, List, [], ◌∷◌, ◌++◌, length, refl, sym, ap, ◌∙◌, arith, append_assoc, length-append}
use Rattle.ep_base.specs.Readings.{Reading}
use Rattle.ep_ext.specs.ExtensionParts.{ExtensionPart, hop_by_hop, destination_options, routing, fragment, authentication, part_next, part_bytes, EncodesPart, IsExtensionPart}
use Rattle.ep_ext.specs.RawExtension.{raw_extension_bytes}
use Rattle.ep_ext.specs.Chains.{IpVersion, ExtensionChain, IsChainAfter, IsExtensionChain, EncodesParts, parts_bytes}
use Rattle.ep_ext.proofs.PartLemmas.{auth_len}

part_encoded : (number : ℕ) (bytes : List ℕ) (part : ExtensionPart) (after : List ℕ)
    → IsExtensionPart number bytes part after
    → (prefix : List ℕ) × EncodesPart prefix part × (bytes ≡ prefix ++ after)
part_encoded number bytes (hop_by_hop header) after is =
    (raw_extension_bytes header, (is.1.fits, refl), is.1.parts)
part_encoded number bytes (destination_options header) after is =
    (raw_extension_bytes header, (is.1.fits, refl), is.1.parts)
part_encoded number bytes (routing header) after is =
    (raw_extension_bytes header, (is.1.fits, refl), is.1.parts)
part_encoded number bytes (fragment header) after is = (is.1.encoded, is.1.encodes, is.1.parts)
part_encoded number bytes (authentication header) after is = (is.1.encoded, is.1.encodes, is.1.parts)

-- Bytes that encode a header have the length of its wire format.
encoded_len : (bytes : List ℕ) (part : ExtensionPart) → EncodesPart bytes part
    → length bytes ≡ length (part_bytes part)
encoded_len bytes (hop_by_hop header) encodes = ap length encodes.1
encoded_len bytes (destination_options header) encodes = ap length encodes.1
encoded_len bytes (routing header) encodes = ap length encodes.1
encoded_len bytes (fragment header) encodes = ap length encodes.same
encoded_len bytes (authentication header) encodes =
    ap length encodes.same ∙ auth_len encodes.reserved header ∙ sym (auth_len 0 header)

encoded_lens : (bytes : List ℕ) (parts : List ExtensionPart) → EncodesParts bytes parts
    → length bytes ≡ length (parts_bytes parts)
encoded_lens bytes [] encodes = ap length encodes
encoded_lens bytes (part ∷ parts) encodes = omega (
  arith,
  ap length encodes.4,
  length-append encodes.0 encodes.1,
  length-append (part_bytes part) (parts_bytes parts),
  encoded_len encodes.0 part encodes.2,
  encoded_lens encodes.1 parts encodes.3,
)

after_encoded : (version : IpVersion) (reading : Reading) (taken : List ℕ) (number : ℕ) (bytes : List ℕ)
    (parts : List ExtensionPart) (last : ℕ) (rest : List ℕ)
    → IsChainAfter version reading taken number bytes parts last rest
    → (encoded : List ℕ) × EncodesParts encoded parts × (bytes ≡ encoded ++ rest)
after_encoded version reading taken number bytes [] last rest is = ([], refl, sym is.2)
after_encoded version reading taken number bytes (part ∷ parts) last rest is =
    let here = part_encoded number bytes part is.1.0 is.1.1 in
    let more = after_encoded version reading (number ∷ taken) (part_next part) is.1.0 parts last rest is.1.2 in (
      here.0 ++ more.0,
      (here.0, more.0, here.1, more.1, refl),
      here.2 ∙ ap (λ (s : List ℕ). here.0 ++ s) more.2 ∙ sym (append_assoc here.0 more.0 rest),
    )

-- The bytes of a chain are the bytes of its headers, followed by the rest.
pub chain_encoded : (version : IpVersion) (reading : Reading) (number : ℕ) (bytes : List ℕ) (chain : ExtensionChain)
    → IsExtensionChain version reading number bytes chain
    → (encoded : List ℕ) × EncodesParts encoded chain.parts × (bytes ≡ encoded ++ chain.rest)
chain_encoded version reading number bytes chain is =
    after_encoded version reading [] number bytes chain.parts chain.last chain.rest is

pub chain_len : (version : IpVersion) (reading : Reading) (number : ℕ) (bytes : List ℕ) (chain : ExtensionChain)
    → IsExtensionChain version reading number bytes chain
    → length bytes ≡ length (parts_bytes chain.parts) + length chain.rest
chain_len version reading number bytes chain is =
    let all = chain_encoded version reading number bytes chain is in
    omega (arith, ap length all.2, length-append all.0 chain.rest, encoded_lens all.0 chain.parts all.1)
