-- Properties of watched readers and writers that contracts refer to.
use Rattle.std.specs.Prelude.{◌≡◌, ℕ, Bool, ◌||◌, ◌==◌, List, ◌++◌, Option}
use Rattle.std.specs.Io.KnownBytes.{Appends}
use Rattle.line_io.specs.declared.watched.Watched.{Watched}

-- the wrapped reader or writer
abbrev pub inner_of : {T : Type 0} → Watched T → T
inner_of watched = watched.inner

-- the value that `failed` returns
abbrev pub has_failed : {T : Type 0} → Watched T → Bool
has_failed watched = watched.failed

-- the number of reads that are still allowed
abbrev pub reads_left : {T : Type 0} → Watched T → ℕ
reads_left watched = watched.reads_left

-- a read into a nonempty slice returned 0 bytes
abbrev pub is_at_end : {T : Type 0} → Watched T → Bool
is_at_end watched = watched.at_end

-- the value that `ended` returns
abbrev pub has_ended : {T : Type 0} → Watched T → Bool
has_ended watched = is_at_end watched || (reads_left watched == 0)

-- the number of allowed reads, and whether the end was reached, are unchanged
abbrev pub KeepsReads : {T : Type 0} → Watched T → Watched T → Type 0
KeepsReads old new = (reads_left new ≡ reads_left old) × (is_at_end new ≡ is_at_end old)

-- known contents grow by a prefix of these bytes
abbrev pub AppendsPrefix : Option (List ℕ) → Option (List ℕ) → List ℕ → Type 0
AppendsPrefix contents next_contents bytes =
    (prefix rest : List ℕ) × Appends contents next_contents prefix × (bytes ≡ prefix ++ rest)
