use Rattle.std.proofs.Common.{arith}
use Rattle.ep_build.proofs.writing.set_length.Goals as goal

pub overflow_add-header : goal.overflow_add-header
overflow_add-header c = omega arith
