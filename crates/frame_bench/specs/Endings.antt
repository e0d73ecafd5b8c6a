-- Exit status of the program, and the texts of errors.
use Rattle.std.specs.Prelude.{ℕ, List, Option, Some, None, Result, Ok, Err, codes}
use Rattle.line_io.specs.declared.run_error.RunError.{RunError}
use Rattle.line_io.specs.declared.run_error.RunError.TheVariants.{Read, Write, OutOfMemory}

-- line for standard error
abbrev pub run_error_text : RunError → List ℕ
run_error_text Read = codes "frame_bench: read failed"
run_error_text Write = codes "frame_bench: write failed"
run_error_text OutOfMemory = codes "frame_bench: out of memory"

-- exit status of the program: 0 after a complete run, and 1 after an error
abbrev pub status_of : {T : Type 0} → Result T RunError → ℕ
status_of (Ok done) = 0
status_of (Err error) = 1

-- text printed to standard error: that of an error, and none after a complete run
abbrev pub complaint_of : {T : Type 0} → Result T RunError → Option (List ℕ)
complaint_of (Ok done) = None
complaint_of (Err error) = Some (run_error_text error)
