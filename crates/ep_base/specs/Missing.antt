-- Length errors and the bytes that they report as missing.
use Rattle.std.specs.Prelude.{◌≡◌, ◌<◌, ◌≤◌, ◌⊎◌, ℕ, ◌+◌, List, ◌++◌, length}
use Rattle.ep_base.specs.Bytes.{AreBytes}
use Rattle.ep_base.specs.declared.err.len_error.LenError.{LenError}
use Rattle.ep_base.specs.declared.err.layer.Layer.{Layer}
use Rattle.ep_base.specs.declared.err.layer.Layer.TheVariants as layer
use Rattle.ep_base.specs.declared.len_source.LenSource.{LenSource}
use Rattle.ep_base.specs.declared.len_source.LenSource.TheVariants as source

-- The available bytes are the limit: the length source is the end of the slice, or the address lengths of an ARP
-- packet.
abbrev pub IsOfAvailableBytes : LenSource → Type 0
IsOfAvailableBytes limit = (limit ≡ source.Slice) ⊎ (limit ≡ source.ArpAddrLengths)

-- The message must have an exact length (RFC 792, timestamp and timestamp reply), and is also rejected if it is longer.
abbrev pub HasExactLength : Layer → Type 0
HasExactLength place = (place ≡ layer.Icmpv4Timestamp) ⊎ (place ≡ layer.Icmpv4TimestampReply)

-- A layer needs more bytes than are available from its start to this limit.
pub record IsShortAt (limit : ℕ) (error : LenError) : Type 0 where
  pub available : error.layer_start_offset + error.len ≡ limit
  pub needed : error.len < error.required_len

-- If the available bytes are the limit, and the layer does not require an exact length, the error counts the bytes up
-- to the limit, and these are too few.
abbrev pub CountsMissing : ℕ → LenError → Type 0
CountsMissing limit error =
    IsOfAvailableBytes error.len_source → (¬ HasExactLength error.layer) → IsShortAt limit error

-- The error of a row of a refusal table, with another number of available bytes.
abbrev pub that_row : LenError → ℕ → LenError
that_row error len = record error { len = len }

-- Length errors whose limit is the available bytes count these exactly, unless the layer requires an exact length. Once
-- at least the missing number of bytes is appended, the row of such an error does not reject the bytes again.
pub record ReportsMissing (Refuses : List ℕ → LenError → Type 0) : Type 0 where
  pub counts : (bytes : List ℕ) (error : LenError) → Refuses bytes error → CountsMissing (length bytes) error
  pub not_again : (bytes more : List ℕ) (error : LenError) (len : ℕ) → Refuses bytes error
      → IsOfAvailableBytes error.len_source → (¬ HasExactLength error.layer)
      → error.required_len ≤ error.len + length more → Refuses (bytes ++ more) (that_row error len) → ⊥

-- The length error of bytes that are truncated from `whole` to `cut` bytes: a layer needs more bytes than there are
-- from its start to the truncation, but none past the original end.
pub record IsTruncationLenError (cut whole : ℕ) (error : LenError) : Type 0 where
  pub available : error.layer_start_offset + error.len ≡ cut
  pub needed : error.len < error.required_len
  pub within : error.layer_start_offset + error.required_len ≤ whole

-- An error that wraps the length error of truncated bytes, whose length source is given by `limit`.
pub record IsTruncationError {E : Type 0} (named : LenError → E) (limit : LenError → LenSource) (cut whole : ℕ) (error : E)
    : Type 0 where
  pub missing : LenError
  pub is : error ≡ named missing
  pub short : IsTruncationLenError cut whole missing
  pub source : missing.len_source ≡ limit missing

-- The limit is the end of the available bytes.
abbrev pub slice_end : LenError → LenSource
slice_end error = source.Slice

-- If bytes are a value and a prefix of them is rejected, the error reports the truncated bytes as missing.
abbrev pub ReportsTruncation : {V E : Type 0} → (List ℕ → V → Type 0) → (List ℕ → E → Type 0) → (LenError → E)
    → (V → LenError → LenSource) → Type 0
ReportsTruncation {V = V} {E = E} Is Refuses named limit =
    (prefix rest : List ℕ) → AreBytes (prefix ++ rest) → (value : V) → Is (prefix ++ rest) value
    → (error : E) → Refuses prefix error
    → IsTruncationError named (limit value) (length prefix) (length (prefix ++ rest)) error
