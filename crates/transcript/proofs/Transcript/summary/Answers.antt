use Rattle.std.proofs.Common.{◌∙◌, append_assoc}
use Rattle.transcript.proofs.Transcript.summary.Goals as goal

pub returns : goal.returns
returns c = c.in_ok-text.ensures.ok ∙ rw (c.waiting-waiting.ensures, c.held-held.ensures) (simp append_assoc)
