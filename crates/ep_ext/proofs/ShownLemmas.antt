-- The headers found in the bytes are the headers of their chain.
use Rattle.std.proofs.Common.{◌≡◌, ℕ, zero, suc, ◌+◌, ◌≤◌, true, false, if◌then◌else◌, List, [], ◌∷◌, ◌++◌, get_or, length, take, drop, Option, None, is_none, refl, sym, ap, subst, ◌∙◌, inl, inr, arith, append_assoc, length-append, length-drop}
use Rattle.std.proofs.lemmas.Bool.{cases_Bool, and_left, and_right}
use Rattle.std.proofs.lemmas.Grind.{common_steps}
use Rattle.ep_base.proofs.BytesLemmas.{same_parts}
use Rattle.ep_base.specs.Readings.{slices}
use Rattle.ep_base.specs.Tables.{first_row, rows_as}
use Rattle.ep_base.proofs.TableLemmas.{first_row-as_none}
use Rattle.ep_base.specs.declared.err.ipv6_exts.HeaderSliceError.{HeaderSliceError}
use Rattle.ep_base.specs.declared.err.ipv6_exts.HeaderSliceError.TheVariants as header_error
use Rattle.ep_ext.specs.declared.ip_auth_header.IpAuthHeader.{IpAuthHeader}
use Rattle.ep_ext.specs.declared.ipv6_fragment_header.Ipv6FragmentHeader.{Ipv6FragmentHeader}
use Rattle.ep_ext.specs.declared.ipv6_raw_ext_header.Ipv6RawExtHeader.{Ipv6RawExtHeader}
use Rattle.ep_ext.specs.IpAuth.{IsIpAuth, ip_auth_rows}
use Rattle.ep_ext.specs.FragmentHeader.{IsFragmentHeader, fragment_header_rows}
use Rattle.ep_ext.specs.RawExtension.{IsRawExtension, raw_extension_rows, raw_extension_bytes}
use Rattle.ep_ext.specs.ExtensionParts.{ExtensionPart, hop_by_hop, destination_options, routing, fragment, authentication, part_next, part_len, IsExtensionPart, RefusesExtensionPart, auth_refusal}
use Rattle.ep_ext.specs.Chains.{ipv6, chain_of, ends, demand_of, is_ipv6_extension, IsChainAfter, IsExtensionChain, IpVersion}
use Rattle.ep_base.specs.Readings.{Reading}
use Rattle.ep_ext.specs.ShownChains.{part_of, part_len_of, begins_part, shown_parts_in, shown_parts}
use Rattle.ep_ext.proofs.IpAuthLemmas.{ip_auth_is_read}
use Rattle.ep_ext.proofs.FragmentHeaderLemmas.{fragment_header_is_read}
use Rattle.ep_ext.proofs.RawExtensionLemmas.{raw_extension_is_read}
use Rattle.ep_ext.proofs.PartLemmas.{part_lens}

-- Facts about the first header of the bytes.
pub record ShowsFirst (number : ℕ) (bytes : List ℕ) (part : ExtensionPart) (after : List ℕ) : Type 0 where
  pub begins : begins_part number bytes ≡ true
  pub part_is : part ≡ part_of number (take (part_len_of number bytes) bytes)
  pub after_is : after ≡ drop (part_len_of number bytes) bytes
  pub next_is : part_next part ≡ get_or bytes 0 0

none_begins : {E : Type 0} → (answer : Option E) → answer ≡ None → is_none answer ≡ true
none_begins answer none = ap is_none none

raw_next : (bytes : List ℕ) (header : Ipv6RawExtHeader) (after : List ℕ) → IsRawExtension bytes (header, after)
    → header.next_header.0 ≡ get_or bytes 0 0
raw_next bytes header after is = sym (ap (λ (b : List ℕ). get_or b 0 0) is.parts)

fragment_next : (bytes : List ℕ) (header : Ipv6FragmentHeader) (after : List ℕ)
    → IsFragmentHeader bytes (header, after) → header.next_header.0 ≡ get_or bytes 0 0
fragment_next bytes header after is =
    sym (ap (λ (b : List ℕ). get_or b 0 0) is.parts ∙ ap (λ (b : List ℕ). get_or (b ++ after) 0 0) is.encodes.same)

auth_next : (bytes : List ℕ) (header : IpAuthHeader) (after : List ℕ) → IsIpAuth bytes (header, after)
    → header.next_header.0 ≡ get_or bytes 0 0
auth_next bytes header after is =
    sym (ap (λ (b : List ℕ). get_or b 0 0) is.parts ∙ ap (λ (b : List ℕ). get_or (b ++ after) 0 0) is.encodes.same)

raw_begins : (bytes : List ℕ) → first_row (raw_extension_rows bytes) ≡ None
    → is_none (first_row (rows_as header_error.Len (raw_extension_rows bytes))) ≡ true
raw_begins bytes none = none_begins _ (first_row-as_none header_error.Len (raw_extension_rows bytes) none)

hop_by_hop_first : (bytes : List ℕ) (header : Ipv6RawExtHeader) (after : List ℕ)
    → IsRawExtension bytes (header, after) → ShowsFirst 0 bytes (hop_by_hop header) after
hop_by_hop_first bytes header after is =
    let read = raw_extension_is_read.is_read bytes (header, after) is in
    record {
      begins = raw_begins bytes read.0;
      part_is = λ i. hop_by_hop (read.1 i).0;
      after_is = λ i. (read.1 i).1;
      next_is = raw_next bytes header after is;
    }

routing_first : (bytes : List ℕ) (header : Ipv6RawExtHeader) (after : List ℕ)
    → IsRawExtension bytes (header, after) → ShowsFirst 43 bytes (routing header) after
routing_first bytes header after is =
    let read = raw_extension_is_read.is_read bytes (header, after) is in
    record {
      begins = raw_begins bytes read.0;
      part_is = λ i. routing (read.1 i).0;
      after_is = λ i. (read.1 i).1;
      next_is = raw_next bytes header after is;
    }

destination_first : (bytes : List ℕ) (header : Ipv6RawExtHeader) (after : List ℕ)
    → IsRawExtension bytes (header, after) → ShowsFirst 60 bytes (destination_options header) after
destination_first bytes header after is =
    let read = raw_extension_is_read.is_read bytes (header, after) is in
    record {
      begins = raw_begins bytes read.0;
      part_is = λ i. destination_options (read.1 i).0;
      after_is = λ i. (read.1 i).1;
      next_is = raw_next bytes header after is;
    }

fragment_first : (bytes : List ℕ) (header : Ipv6FragmentHeader) (after : List ℕ)
    → IsFragmentHeader bytes (header, after) → ShowsFirst 44 bytes (fragment header) after
fragment_first bytes header after is =
    let read = fragment_header_is_read.is_read bytes (header, after) is in
    record {
      begins = none_begins _ (first_row-as_none header_error.Len (fragment_header_rows bytes) read.0);
      part_is = λ i. fragment (read.1 i).0;
      after_is = λ i. (read.1 i).1;
      next_is = fragment_next bytes header after is;
    }

authentication_first : (bytes : List ℕ) (header : IpAuthHeader) (after : List ℕ) → IsIpAuth bytes (header, after)
    → ShowsFirst 51 bytes (authentication header) after
authentication_first bytes header after is =
    let read = ip_auth_is_read.is_read bytes (header, after) is in
    record {
      begins = none_begins _ (first_row-as_none auth_refusal (ip_auth_rows bytes) read.0);
      part_is = λ i. authentication (read.1 i).0;
      after_is = λ i. (read.1 i).1;
      next_is = auth_next bytes header after is;
    }

-- Bytes that begin with a header are found to have it first.
pub part_shown : (number : ℕ) (bytes : List ℕ) (part : ExtensionPart) (after : List ℕ)
    → IsExtensionPart number bytes part after → ShowsFirst number bytes part after
part_shown number bytes (hop_by_hop header) after is = subst (λ (n : ℕ). ShowsFirst n bytes
    (hop_by_hop header) after) (sym is.0) (hop_by_hop_first bytes header after is.1)
part_shown number bytes (destination_options header) after is = subst (λ (n : ℕ). ShowsFirst n bytes
    (destination_options header) after) (sym is.0) (destination_first bytes header after is.1)
part_shown number bytes (routing header) after is = subst (λ (n : ℕ). ShowsFirst n bytes (routing header) after)
    (sym is.0) (routing_first bytes header after is.1)
part_shown number bytes (fragment header) after is = subst (λ (n : ℕ). ShowsFirst n bytes (fragment header) after)
    (sym is.0) (fragment_first bytes header after is.1)
part_shown number bytes (authentication header) after is = subst (λ (n : ℕ). ShowsFirst n bytes
    (authentication header) after) (sym is.0) (authentication_first bytes header after is.1)

-- ---- one step of finding headers

begun : (most number : ℕ) (bytes : List ℕ) → begins_part number bytes ≡ true → shown_parts_in (suc most) number bytes
    ≡ part_of number (take (part_len_of number bytes) bytes) ∷ shown_parts_in most (get_or bytes 0 0) (drop
    (part_len_of number bytes) bytes)
unfolding shown_parts_in
begun most number bytes begins = λ i. if begins i
    then part_of number (take (part_len_of number bytes) bytes) ∷ shown_parts_in most (get_or bytes 0 0) (drop
    (part_len_of number bytes) bytes)
    else []

not_begun : (most number : ℕ) (bytes : List ℕ) → begins_part number bytes ≡ false
    → shown_parts_in most number bytes ≡ []
unfolding shown_parts_in
not_begun zero number bytes begins = refl
not_begun (suc most) number bytes begins = λ i. if begins i
    then part_of number (take (part_len_of number bytes) bytes) ∷ shown_parts_in most (get_or bytes 0 0) (drop
    (part_len_of number bytes) bytes)
    else []

-- The headers found are the first header and those found after it.
first_shown : (most number : ℕ) (bytes : List ℕ) (part : ExtensionPart) (after : List ℕ)
    → IsExtensionPart number bytes part after
    → shown_parts_in (suc most) number bytes ≡ part ∷ shown_parts_in most (part_next part) after
first_shown most number bytes part after is =
    let shows = part_shown number bytes part after is in
    begun most number bytes shows.begins ∙ (λ i. sym shows.part_is i ∷ shown_parts_in most (sym shows.next_is i)
    (sym shows.after_is i))

-- An IP number that is not that of an extension header finds no header.
pub no_kind_shown : (number : ℕ) (bytes : List ℕ) → is_ipv6_extension number ≡ false → begins_part number bytes ≡ false
no_kind_shown number bytes none = and_left (is_ipv6_extension number) _ none

-- Rejected bytes have no header found.
pub refused_shown : (number : ℕ) (bytes : List ℕ) (error : HeaderSliceError) → is_ipv6_extension number ≡ true
    → RefusesExtensionPart number bytes error → begins_part number bytes ≡ false
refused_shown number bytes error kind refused = and_right (is_ipv6_extension number) _ (ap is_none refused)

-- ---- the bound on the number of headers is irrelevant

-- Bytes that begin with a header have at least 8 bytes.
begun_long : (number : ℕ) (bytes : List ℕ) → begins_part number bytes ≡ true → 8 ≤ length bytes
begun_long number bytes begins = grind (arith, common_steps)

part_len_least : (number : ℕ) (bytes : List ℕ) → 8 ≤ part_len_of number bytes
part_len_least number bytes = grind (arith, common_steps)

pub no_bytes : (number : ℕ) (bytes : List ℕ) → length bytes ≤ 0 → begins_part number bytes ≡ false
no_bytes number bytes none = elim (cases_Bool (begins_part number bytes)) [
  | inl begins ↦ absurd (omega (arith, begun_long number bytes begins))
  | inr not_present ↦ not_present
]

enough : (most other number : ℕ) (bytes : List ℕ) → length bytes ≤ most → length bytes ≤ other
    → shown_parts_in most number bytes ≡ shown_parts_in other number bytes
enough zero other number bytes within within_other =
    let none = no_bytes number bytes within in
    not_begun zero number bytes none ∙ sym (not_begun other number bytes none)
enough (suc most) zero number bytes within within_other =
    let none = no_bytes number bytes within_other in
    not_begun (suc most) number bytes none ∙ sym (not_begun zero number bytes none)
enough (suc most) (suc other) number bytes within within_other =
    elim (cases_Bool (begins_part number bytes)) [
      | inl begins ↦
          let long = begun_long number bytes begins in
          let least = part_len_least number bytes in
          let n = part_len_of number bytes in
          begun most number bytes begins
          ∙ ap (λ (parts : List ExtensionPart). part_of number (take n bytes) ∷ parts)
          (enough most other (get_or bytes 0 0) (drop n bytes) (omega (arith, length-drop n bytes)) (omega
          (arith, length-drop n bytes)))
          ∙ sym (begun other number bytes begins)
      | inr none ↦ not_begun (suc most) number bytes none ∙ sym (not_begun (suc other) number bytes none)
    ]

-- The headers found in the bytes are a first header and those found after it.
pub shown_next : (number : ℕ) (bytes : List ℕ) (part : ExtensionPart) (after : List ℕ)
    → IsExtensionPart number bytes part after
    → shown_parts number bytes ≡ part ∷ shown_parts (part_next part) after
unfolding shown_parts
shown_next number bytes part after is =
    let lens = part_lens number bytes part after is in
    let most = part_len part + length after in
    enough (length bytes) (suc most) number bytes (omega arith) (omega (arith, lens.0))
    ∙ first_shown most number bytes part after is
    ∙ ap (λ (parts : List ExtensionPart). part ∷ parts) (enough most (length after) (part_next part) after
    (omega arith) (omega arith))

-- No headers are found if none begins the bytes.
pub shown_none : (number : ℕ) (bytes : List ℕ) → begins_part number bytes ≡ false → shown_parts number bytes ≡ []
unfolding shown_parts
shown_none number bytes none = not_begun (length bytes) number bytes none

shown_at_most : (most number : ℕ) (bytes : List ℕ) → length (shown_parts_in most number bytes) ≤ most
unfolding shown_parts_in
shown_at_most zero number bytes = omega arith
shown_at_most (suc most) number bytes =
    elim (cases_Bool (begins_part number bytes)) [
      | inl begins ↦ subst (λ (parts : List ExtensionPart). length parts ≤ suc most) (sym
          (begun most number bytes begins))
          (omega (arith, shown_at_most most (get_or bytes 0 0) (drop (part_len_of number bytes) bytes)))
      | inr none ↦ subst (λ (parts : List ExtensionPart). length parts ≤ suc most) (sym (not_begun
          (suc most) number bytes none)) (omega arith)
    ]

-- There are no more headers than bytes.
pub shown_within : (number : ℕ) (bytes : List ℕ) → length (shown_parts number bytes) ≤ length bytes
unfolding shown_parts
shown_within number bytes = shown_at_most (length bytes) number bytes

-- ---- headers of a chain are those found in its bytes

-- No header is found at the end of a chain of slices.
end_is_no_kind : (taken : List ℕ) (number : ℕ) → demand_of ipv6 slices taken number ≡ ends
    → is_ipv6_extension number ≡ false
end_is_no_kind taken number end = grind (arith, common_steps)

pub chain_shown : (taken : List ℕ) (number : ℕ) (bytes : List ℕ) (parts : List ExtensionPart) (last : ℕ) (rest : List ℕ)
    → IsChainAfter ipv6 slices taken number bytes parts last rest → shown_parts number bytes ≡ parts
chain_shown taken number bytes [] last rest is = shown_none number bytes (no_kind_shown number bytes
    (end_is_no_kind taken number is.0))
chain_shown taken number bytes (part ∷ parts) last rest is =
    shown_next number bytes part is.1.0 is.1.1
    ∙ ap (λ (more : List ExtensionPart). part ∷ more) (chain_shown (number ∷ taken)
    (part_next part) is.1.0 parts last rest is.1.2)

-- A header stays valid when the bytes after it are replaced.
pub part_moved : (number : ℕ) (bytes : List ℕ) (part : ExtensionPart) (after other : List ℕ)
    → IsExtensionPart number bytes part after
    → (prefix : List ℕ) × (bytes ≡ prefix ++ after) × IsExtensionPart number (prefix ++ other) part other
part_moved number bytes (hop_by_hop header) after other is = (
  raw_extension_bytes header,
  is.1.parts,
  (is.0, record { fits = is.1.fits; parts = refl }),
)
part_moved number bytes (destination_options header) after other is = (
  raw_extension_bytes header,
  is.1.parts,
  (is.0, record { fits = is.1.fits; parts = refl }),
)
part_moved number bytes (routing header) after other is = (
  raw_extension_bytes header,
  is.1.parts,
  (is.0, record { fits = is.1.fits; parts = refl }),
)
part_moved number bytes (fragment header) after other is =
    (is.1.encoded, is.1.parts, (is.0, record { encoded = is.1.encoded; encodes = is.1.encodes; parts = refl }))
part_moved number bytes (authentication header) after other is =
    (is.1.encoded, is.1.parts, (is.0, record { encoded = is.1.encoded; encodes = is.1.encodes; parts = refl }))

-- The bytes of a chain without the rest.
pub record PrefixOf (version : IpVersion) (reading : Reading) (taken : List ℕ) (number : ℕ) (bytes : List ℕ)
    (parts : List ExtensionPart) (last : ℕ) (rest : List ℕ) : Type 0 where
  pub prefix : List ℕ
  pub split : bytes ≡ prefix ++ rest
  pub chain : IsChainAfter version reading taken number prefix parts last []

pub chain_prefix : (version : IpVersion) (reading : Reading) (taken : List ℕ) (number : ℕ) (bytes : List ℕ)
    (parts : List ExtensionPart) (last : ℕ) (rest : List ℕ)
    → IsChainAfter version reading taken number bytes parts last rest
    → PrefixOf version reading taken number bytes parts last rest
chain_prefix version reading taken number bytes [] last rest is = record {
  prefix = [];
  split = sym is.2;
  chain =
      (is.0, is.1, refl);
}
chain_prefix version reading taken number bytes (part ∷ parts) last rest is =
    let more = chain_prefix version reading (number ∷ taken) (part_next part) is.1.0 parts last rest is.1.2 in
    let moved = part_moved number bytes part is.1.0 more.prefix is.1.1 in
    record {
      prefix = moved.0 ++ more.prefix;
      split = moved.1 ∙ ap (λ (s : List ℕ). moved.0 ++ s) more.split ∙ sym (append_assoc moved.0 more.prefix rest);
      chain = (is.0, (more.prefix, moved.2, more.chain));
    }

-- The headers found in the bytes before the rest of a chain of slices are its headers.
pub prefix_shown : (number : ℕ) (bytes prefix : List ℕ) (parts : List ExtensionPart) (last : ℕ) (rest : List ℕ)
    → IsExtensionChain ipv6 slices number bytes (chain_of parts last rest) → bytes ≡ prefix ++ rest
    → shown_parts number prefix ≡ parts
prefix_shown number bytes prefix parts last rest is split =
    let own = chain_prefix ipv6 slices [] number bytes parts last rest is in
    let both : prefix ++ rest ≡ own.prefix ++ rest = sym split ∙ own.split in
    let lens : length prefix ≡ length own.prefix = omega
    (arith, length-append prefix rest, length-append own.prefix rest, ap length both) in
    let same = (same_parts prefix own.prefix rest rest lens both).0 in
    ap (shown_parts number) same ∙ chain_shown [] number own.prefix parts last [] own.chain
