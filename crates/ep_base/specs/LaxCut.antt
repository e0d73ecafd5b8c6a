-- Payloads limited by a length field that may be greater than the number of available bytes.
use Rattle.std.specs.Prelude.{◌≡◌, ◌&&◌, ◌||◌, ◌+◌, ◌++◌, not, nat_le, nat_lt, if◌then◌else◌, ℕ, Bool, List, length}
use Rattle.ep_base.specs.declared.lax_cut.LimitedSlice.{LimitedSlice}
use Rattle.ep_base.specs.declared.len_source.LenSource.{LenSource}
use Rattle.ep_base.specs.declared.len_source.LenSource.TheVariants as source

-- The payload and trailing bytes after a header, the source of the payload's length, and whether bytes of the payload
-- are missing.
pub record LaxCut : Type 0 where
  pub payload : List ℕ
  pub left : List ℕ
  pub source : LenSource
  pub incomplete : Bool

-- Whether a length field applies: its value `stated` is at least the minimum `least`, and at most `available`, the
-- number of available bytes.
abbrev pub cuts : ℕ → ℕ → ℕ → Bool
cuts least stated available = nat_le least stated && nat_le stated available

-- Whether bytes of the payload are missing: the length field does not apply, and either its value `stated` is greater
-- than the number of available bytes (`available`), or the enclosing layer is itself incomplete (`outer`).
abbrev pub is_missing : ℕ → ℕ → Bool → ℕ → Bool
is_missing least stated outer available = not (cuts least stated available) && (outer || nat_lt available stated)

-- The bytes after a layer's header, split by the layer's length field. The field counts from the start of the layer,
-- and its minimum is `least`. If the field applies, it is the source of the payload's length, and the payload is
-- complete. Otherwise the payload takes all bytes; it is incomplete if the field is greater than the number of
-- available bytes, or if the layer's own bytes are incomplete (`outer`).
pub record IsLaxCut (least stated : ℕ) (named : LenSource) (outer : Bool) (header_len : ℕ) (after : List ℕ)
    (cut : LaxCut) : Type 0 where
  pub parts : after ≡ cut.payload ++ cut.left
  pub ends : let available = header_len + length after in
      header_len + length cut.payload ≡ (if cuts least stated available then stated else available)
  pub source : cut.source ≡ (if cuts least stated (header_len + length after) then named else source.Slice)
  pub incomplete : cut.incomplete ≡ is_missing least stated outer (header_len + length after)

-- The limited bytes with the trailing bytes.
abbrev pub lax_cut_of : LimitedSlice → List ℕ → LaxCut
lax_cut_of slice left = record {
  payload = slice.payload.now;
  left = left;
  source = slice.len_source;
  incomplete = slice.incomplete;
}
