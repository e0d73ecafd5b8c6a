use Rattle.std.proofs.Common.{◌≡◌, ◌≤◌, [], take, length, vec_len, vec_capacity}
use Rattle.ep_defrag.specs.Buffers.{HoldsFragments, ip_number_of}
use Rattle.ep_defrag.specs.Runs.{accepted_after, answers_after}
use Rattle.ep_defrag.proofs.run.add_all.Given as goal

-- The fragments so far are held and answered, and there is capacity for the answers to the others.
abbrev pub invariant-loop-at : goal.invariant-loop-at
invariant-loop-at l = record {
  holds : HoldsFragments l.buffer (accepted_after [] (take l.at l.fragments));
  answered : l.answers.items ≡ answers_after [] (take l.at l.fragments);
  counted : vec_len l.answers ≡ l.at;
  capacity : length l.fragments ≤ vec_capacity l.answers;
  number : ip_number_of l.buffer ≡ l.fn.ip_number;
}
