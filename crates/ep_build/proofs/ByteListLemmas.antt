-- Lists of numbers that are lists of bytes.
use Rattle.std.proofs.Common.{ℕ, zero, suc, ◌<◌, List, [], ◌∷◌, ◌++◌, arith}
use Rattle.std.specs.Int.{w16, w32, to_be_bytes}
use Rattle.ep_base.specs.Bytes.{AreBytes}

-- Each number of the list is a byte; the list is inferred from the fact.
pub record AllBytes (bytes : List ℕ) : Type 0 where
  pub fits : AreBytes bytes

pub all : (bytes : List ℕ) → AreBytes bytes → AllBytes bytes
all bytes fits = record { fits = fits }

pub none : AllBytes []
none = record { fits = λ i. omega arith }

more_bytes : (byte : ℕ) (bytes : List ℕ) → byte < 256 → AreBytes bytes → AreBytes (byte ∷ bytes)
more_bytes byte bytes small fits zero = small
more_bytes byte bytes small fits (suc i) = fits i

pub more : (byte : ℕ) (bytes : List ℕ) → byte < 256 → AllBytes bytes → AllBytes (byte ∷ bytes)
more byte bytes small all = record { fits = more_bytes byte bytes small all.fits }

pub both_bytes : (bytes after : List ℕ) → AreBytes bytes → AreBytes after → AreBytes (bytes ++ after)
both_bytes [] after fits other = other
both_bytes (byte ∷ bytes) after fits other =
    more_bytes byte (bytes ++ after) (fits 0) (both_bytes bytes after (λ i. fits (suc i)) other)

pub both : (bytes after : List ℕ) → AreBytes bytes → AllBytes after → AllBytes (bytes ++ after)
both bytes after fits other = record { fits = both_bytes bytes after fits other.fits }

pub word : (n : ℕ) (after : List ℕ) → AllBytes after → AllBytes (to_be_bytes w16 n ++ after)
word n after all = more _ _ (omega arith) (more _ _ (omega arith) all)

pub long : (n : ℕ) (after : List ℕ) → AllBytes after → AllBytes (to_be_bytes w32 n ++ after)
long n after all =
    more _ _ (omega arith) (more _ _ (omega arith) (more _ _ (omega arith) (more _ _ (omega arith) all)))
