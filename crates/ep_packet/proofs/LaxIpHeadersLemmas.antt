-- Bytes are an IP packet read laxly as owned headers, or are rejected.
use Rattle.std.proofs.Common.{◌≡◌, ◌==◌, ◌||◌, not, length, if◌then◌else◌, ℕ, ◌+◌, true, false, List, [], ◌∷◌, Option, Some, None, refl, sym, ◌∙◌, inl, inr, arith}
use Rattle.std.proofs.lemmas.Bool.{cases_eq, ne_eqb}
use Rattle.ep_base.specs.Bytes.{AreBytes}
use Rattle.ep_base.specs.Readings.{Reading, headers, slices}
use Rattle.ep_base.specs.Tables.{IsDecided, first_row, rows_as}
use Rattle.ep_base.specs.declared.err.ipv6_exts.HeaderSliceError.{HeaderSliceError}
use Rattle.ep_base.proofs.DecidedLemmas.{decided_as}
use Rattle.ep_base.proofs.TableLemmas.{first_row-as_some}
use Rattle.ep_ext.specs.Chains.{ExtensionChain, IsChainAfter, RefusesChainAfter, ipv4}
use Rattle.ep_ext.specs.ChainPrefixes.{IsLaxChain, IsLaxChainIn}
use Rattle.ep_ext.specs.ExtensionParts.{ExtensionPart, part_len, part_next}
use Rattle.ep_ext.proofs.PartLemmas.{refused_under}
use Rattle.ep_ip.specs.declared.ipv4_header.Ipv4Header.{Ipv4Header}
use Rattle.ep_ip.specs.declared.ipv6_header.Ipv6Header.{Ipv6Header}
use Rattle.ep_ip.specs.Ip.{version_of}
use Rattle.ep_ip.specs.Ipv4.{ipv4_header_rows}
use Rattle.ep_ip.specs.Ipv6.{ipv6_header_rows}
use Rattle.ep_ip.specs.LaxIp.{LaxIp, IsLaxIpv4In, IsLaxIpv6In, RefusesIpHeader, ip_header_rows, of_ipv4_header, of_ipv6_header}
use Rattle.ep_ip.proofs.LaxIpLemmas.{lax_ipv4_decided, lax_ipv4_version, lax_ipv6_decided, lax_ipv6_version, one_refusal, refused_present, rows_of_ipv4, rows_of_ipv6}
use Rattle.ep_packet.specs.LaxIpHeaders.{IsLaxIp, LaxIpPart, lax_ipv4_part, lax_ipv6_part}

-- A packet whose version is 4 is an IPv4 packet.
ipv4_back : (reading : Reading) (bytes : List ℕ) → version_of bytes ≡ 4 → (part : LaxIpPart)
    → IsLaxIp reading bytes part
    → (lax : LaxIp Ipv4Header) × IsLaxIpv4In reading false bytes lax × (part ≡ lax_ipv4_part lax)
ipv4_back reading bytes version (lax_ipv4_part lax) is = (lax, is, refl)
ipv4_back reading bytes version (lax_ipv6_part lax) is =
    absurd (omega (arith, version, lax_ipv6_version reading false bytes lax is))

ipv6_back : (reading : Reading) (bytes : List ℕ) → version_of bytes ≡ 6 → (part : LaxIpPart)
    → IsLaxIp reading bytes part
    → (lax : LaxIp Ipv6Header) × IsLaxIpv6In reading false bytes lax × (part ≡ lax_ipv6_part lax)
ipv6_back reading bytes version (lax_ipv4_part lax) is =
    absurd (omega (arith, version, lax_ipv4_version reading false bytes lax is))
ipv6_back reading bytes version (lax_ipv6_part lax) is = (lax, is, refl)

-- Bytes of another version are no packet.
no_lax_ip : (reading : Reading) (bytes : List ℕ) → (version_of bytes ≡ 4 → ⊥) → (version_of bytes ≡ 6 → ⊥)
    → (part : LaxIpPart) → IsLaxIp reading bytes part → ⊥
no_lax_ip reading bytes not_4 not_6 (lax_ipv4_part lax) is = not_4 (lax_ipv4_version reading false bytes lax is)
no_lax_ip reading bytes not_4 not_6 (lax_ipv6_part lax) is = not_6 (lax_ipv6_version reading false bytes lax is)

-- Bytes either begin with an IP header, and are one packet, or their header is rejected.
pub lax_ip_decided : (reading : Reading) (bytes : List ℕ) → AreBytes bytes
    → IsDecided (IsLaxIp reading bytes) (RefusesIpHeader bytes)
lax_ip_decided reading bytes fits =
    elim (cases_eq (version_of bytes) 4) [
      | inl version ↦
          let rows = rows_of_ipv4 bytes version in
          decided_as lax_ipv4_part of_ipv4_header (lax_ipv4_decided reading false bytes fits)
          (record { present = λ lax is. is; back = ipv4_back reading bytes version })
          (record {
            present = λ error refused. rows ∙ first_row-as_some of_ipv4_header (ipv4_header_rows bytes) error refused;
            back = λ error refused. refused_under of_ipv4_header (ipv4_header_rows bytes) error (sym rows ∙ refused);
          })
      | inr not_4 ↦ elim (cases_eq (version_of bytes) 6) [
        | inl version ↦
            let rows = rows_of_ipv6 bytes version in
            decided_as lax_ipv6_part of_ipv6_header (lax_ipv6_decided reading false bytes fits)
            (record { present = λ lax is. is; back = ipv6_back reading bytes version })
            (record {
              present = λ error refused. rows ∙ first_row-as_some of_ipv6_header (ipv6_header_rows bytes) error refused;
              back = λ error refused. refused_under of_ipv6_header (ipv6_header_rows bytes) error (sym rows ∙ refused);
            })
        | inr not_6 ↦
            let unknown : not (version_of bytes == 4 || version_of bytes == 6) ≡ true =
            (λ i. not (ne_eqb (version_of bytes) 4 not_4 i || ne_eqb (version_of bytes) 6 not_6 i)) in
            let none = no_lax_ip reading bytes not_4 not_6 in
            record {
              some = inr (refused_present (length bytes == 0) (not (version_of bytes == 4 || version_of bytes == 6)) _ _
                  (if version_of bytes == 4 then rows_as of_ipv4_header (ipv4_header_rows bytes)
                  else rows_as of_ipv6_header (ipv6_header_rows bytes)) unknown);
              one_value = λ part other a b. absurd (none part a);
              one_error = λ e f a b. one_refusal (first_row (ip_header_rows bytes)) e f a b;
              not_both = λ part error a b. none part a;
            }
      ]
    ]

-- ---- an IPv4 chain is one in both readings

chain_in : (taken : List ℕ) (number : ℕ) (bytes : List ℕ) (parts : List ExtensionPart) (last : ℕ) (rest : List ℕ)
    → IsChainAfter ipv4 slices taken number bytes parts last rest
    → IsChainAfter ipv4 headers taken number bytes parts last rest
chain_in taken number bytes [] last rest is = is
chain_in taken number bytes (part ∷ parts) last rest is =
    (is.0, (is.1.0, is.1.1, chain_in (number ∷ taken) (part_next part) is.1.0 parts last rest is.1.2))

refused_in : (taken : List ℕ) (offset number : ℕ) (bytes : List ℕ) (parts : List ExtensionPart)
    (error : HeaderSliceError) → RefusesChainAfter ipv4 slices taken offset number bytes parts error
    → RefusesChainAfter ipv4 headers taken offset number bytes parts error
refused_in taken offset number bytes [] error is = is
refused_in taken offset number bytes (part ∷ parts) error is = (
  is.0,
  (
    is.1.0,
    is.1.1,
    refused_in (number ∷ taken) (offset + part_len part) (part_next part) is.1.0 parts error is.1.2,
  ),
)

pub ipv4_lax_by_value : (number : ℕ) (bytes : List ℕ) (chain : ExtensionChain) (stop : Option HeaderSliceError)
    → IsLaxChain ipv4 number bytes chain stop → IsLaxChainIn ipv4 headers number bytes chain stop
ipv4_lax_by_value number bytes chain None is = chain_in [] number bytes chain.parts chain.last chain.rest is
ipv4_lax_by_value number bytes chain (Some error) is =
    (refused_in [] 0 number bytes chain.parts error is.0, is.1)
