use Rattle.std.proofs.Common.{length}
use Rattle.ep_build.proofs.FitLemmas.{linked_fit}
use Rattle.ep_build.proofs.FrameBytesLemmas.{ip_frame_is_bytes}
use Rattle.ep_build.proofs.ReadBackLemmas.{fragment_read_back}
use Rattle.ep_build.proofs.laws.built_fragments.Goals as goal

pub returns-clause-read_back : goal.returns-clause-read_back
returns-clause-read_back c part headers last payload fits_link fit small buildable =
    fragment_read_back part headers last payload fits_link
    (linked_fit part headers last (length payload) fit small buildable)

pub returns-clause-bytes : goal.returns-clause-bytes
returns-clause-bytes c part headers last payload fits_link fit small buildable bytes =
    ip_frame_is_bytes part headers last payload fits_link
    (linked_fit part headers last (length payload) fit small buildable) bytes
