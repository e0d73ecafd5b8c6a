-- The first header that bytes have after those of a prefix of them does not end in the prefix.
use Rattle.std.proofs.Common.{◌≡◌, ◌⊎◌, if◌then◌else◌, ℕ, ◌+◌, ◌-◌, ◌≤◌, ◌<◌, List, [], ◌∷◌, ◌++◌, length, map, take, drop, refl, sym, ap, subst, ◌∙◌, inl, inr, append_assoc, length-append, arith}
use Rattle.std.specs.Prelude.{⊤}
use Rattle.std.proofs.Math.Seq.{take-append_seam}
use Rattle.std.proofs.lemmas.Bool.{le-leb, lt-leb}
use Rattle.std.proofs.lemmas.List.{append_cancel_left, take-append-drop, take-append-le}
use Rattle.ep_ext.specs.ExtensionParts.{ExtensionPart}
use Rattle.ep_packet.specs.Offsets.{parts_len}
use Rattle.ep_lax.specs.LaxHeaders.{BeginWith, LayerHeader, header_len, headers_within, of_extension}

-- ---- bytes

-- If bytes begin with a list and with a longer one, the longer list begins with the shorter.
pub prefix_of_longer : (a x b y : List ℕ) → a ++ x ≡ b ++ y → length a ≤ length b → (rest : List ℕ) × (b ≡ a ++ rest)
prefix_of_longer a x b y same within =
    let n = length a in
    let prefix : take n b ≡ a = sym (take-append-le n b y within) ∙ ap (take n) (sym same) ∙ take-append_seam a x in
    (drop n b, sym (take-append-drop n b) ∙ ap (λ (l : List ℕ). l ++ drop n b) prefix)

-- Bytes that begin with a header which ends in a prefix of them: the prefix begins with the header, too.
pub header_in_prefix : (encoded rest bytes more : List ℕ) → bytes ++ more ≡ encoded ++ rest
    → length encoded ≤ length bytes → (after : List ℕ) × (bytes ≡ encoded ++ after) × (rest ≡ after ++ more)
header_in_prefix encoded rest bytes more same within =
    let after = prefix_of_longer encoded rest bytes more (sym same) within in (
      after.0,
      after.1,
      append_cancel_left encoded rest (after.0 ++ more)
          (sym same ∙ ap (λ (l : List ℕ). l ++ more) after.1 ∙ append_assoc encoded after.0 more),
    )

-- ---- lengths of headers

-- The length of headers together.
abbrev pub headers_len : List LayerHeader → ℕ
headers_len [] = 0
headers_len (header ∷ others) = header_len header + headers_len others

pub headers_len-append : (first second : List LayerHeader)
    → headers_len (first ++ second) ≡ headers_len first + headers_len second
headers_len-append [] second = omega arith
headers_len-append (header ∷ others) second = omega (arith, headers_len-append others second)

-- The length of extension headers.
pub extensions_len : (parts : List ExtensionPart) → headers_len (map of_extension parts) ≡ parts_len parts
extensions_len [] = refl
extensions_len (part ∷ parts) = omega (arith, extensions_len parts)

-- Bytes that begin with headers are at least as long as these.
pub headers_fit : (headers : List LayerHeader) (bytes : List ℕ) → BeginWith headers bytes
    → headers_len headers ≤ length bytes
headers_fit [] bytes begin = omega arith
headers_fit (header ∷ others) bytes (encoded, rest, parts, encodes, len, begin) =
    omega (arith, ap length parts, length-append encoded rest, len, headers_fit others rest begin)

-- ---- the first further header

-- The first of the headers `more`, which come after the headers `shown`, does not end within `len` bytes.
abbrev pub EndAfter : ℕ → List LayerHeader → List LayerHeader → Type 0
EndAfter len shown [] = ⊤
EndAfter len shown (next ∷ others) = len < headers_len shown + header_len next

-- Whichever headers of `entire` come after the headers `shown`, the first of them does not end within `len` bytes.
abbrev pub ShowsComplete : ℕ → List LayerHeader → List LayerHeader → Type 0
ShowsComplete len shown entire = (more : List LayerHeader) → entire ≡ shown ++ more → EndAfter len shown more

-- One list of further headers, whose first one does not end within `len` bytes, is enough.
pub complete_before : (len : ℕ) (shown more entire : List LayerHeader) → entire ≡ shown ++ more → EndAfter len shown more
    → ShowsComplete len shown entire
complete_before len shown more entire parts end others same =
    subst (EndAfter len shown) (append_cancel_left shown more others (sym parts ∙ same)) end

-- No header is shown.
pub complete_first : (len : ℕ) (entire : List LayerHeader) → EndAfter len [] entire → ShowsComplete len [] entire
complete_first len entire end = complete_before len [] entire entire refl end

-- Equal headers.
pub complete_same : (len : ℕ) (shown entire : List LayerHeader) → entire ≡ shown → ShowsComplete len shown entire
complete_same len shown entire same [] parts = tt
complete_same len shown entire same (next ∷ others) parts =
    absurd (omega (arith, ap length (sym same ∙ parts), length-append shown (next ∷ others)))

-- More headers are shown than there are.
pub complete_fewer : (len : ℕ) (shown entire : List LayerHeader) (next : LayerHeader) (others : List LayerHeader)
    → shown ≡ entire ++ next ∷ others → ShowsComplete len shown entire
complete_fewer len shown entire next others parts more same =
    absurd (omega (
      arith,
      ap length same,
      ap length parts,
      length-append shown more,
      length-append entire (next ∷ others),
    ))

-- Headers before both lists.
pub complete_following : (len : ℕ) (before shown entire : List LayerHeader) → ShowsComplete len shown entire
    → ShowsComplete (headers_len before + len) (before ++ shown) (before ++ entire)
complete_following len before shown entire complete more parts =
    following more (complete more (append_cancel_left before entire (shown ++ more) (parts ∙ append_assoc before shown more)))
  where
    following : (more : List LayerHeader) → EndAfter len shown more
        → EndAfter (headers_len before + len) (before ++ shown) more
    following [] end = tt
    following (next ∷ others) end = omega (arith, end, headers_len-append before shown)

-- One header before both lists.
pub complete_after : (len : ℕ) (header : LayerHeader) (shown entire : List LayerHeader) → ShowsComplete len shown entire
    → ShowsComplete (header_len header + len) (header ∷ shown) (header ∷ entire)
complete_after len header shown entire complete =
    subst (λ (n : ℕ). ShowsComplete n (header ∷ shown) (header ∷ entire)) (omega arith)
    (complete_following len (header ∷ []) shown entire complete)

-- A length field limits both to the same bytes, or it leaves the prefix all its bytes.
pub complete_limited : (inner full len : ℕ) (shown entire : List LayerHeader) → ShowsComplete inner shown entire
    → headers_len entire ≤ full → (len ≤ inner) ⊎ (full ≤ inner) → ShowsComplete len shown entire
complete_limited inner full len shown entire complete fits limit [] parts = tt
complete_limited inner full len shown entire complete fits (inl all) (next ∷ others) parts =
    omega (arith, all, complete (next ∷ others) parts)
complete_limited inner full len shown entire complete fits (inr same) (next ∷ others) parts =
    absurd (omega (
      arith,
      same,
      fits,
      complete (next ∷ others) parts,
      ap headers_len parts,
      headers_len-append shown (next ∷ others),
    ))

-- ---- the headers within a prefix

-- The headers that end within the prefix are the ones that are shown.
pub complete_headers : (len : ℕ) (shown more : List LayerHeader) → headers_len shown ≤ len → EndAfter len shown more
    → headers_within len (shown ++ more) ≡ shown
complete_headers len [] [] fits end = refl
complete_headers len [] (next ∷ others) fits end =
    λ i. if lt-leb (header_len next) len (omega (arith, end)) i then next ∷ headers_within (len - header_len next) others else []
complete_headers len (header ∷ shown) more fits end =
    (λ i. if le-leb (header_len header) len (omega (arith, fits)) i
    then header ∷ headers_within (len - header_len header) (shown ++ more) else [])
    ∙ ap (λ (l : List LayerHeader). header ∷ l)
    (complete_headers (len - header_len header) shown more (omega (arith, fits)) (rest more end))
  where
    rest : (more : List LayerHeader) → EndAfter len (header ∷ shown) more
        → EndAfter (len - header_len header) shown more
    rest [] end = tt
    rest (next ∷ others) end = omega (arith, end, fits)
