-- The run theorem: what a client is promised.
use Rattle.std.specs.Prelude.{◌≡◌, ℕ, suc, ◌+◌, ◌≤◌, false, cond, List, [], ◌∷◌, ◌++◌, replicate}
use Rattle.std.specs.List.{AllByRecursion as Each}
use Rattle.events.specs.Items.{is_report_end}
use Rattle.parts.specs.Meaning.{Meaning}
use Rattle.events.specs.declared.items.Item.{Item}
use Rattle.model.specs.declared.Call.TheVariants.{Read as reading}
use Rattle.model.specs.Answers.{Answered, live}
use Rattle.model.specs.Core.{seat_at, waiting, barred}
use Rattle.model.specs.Runs.{World, Turn, Run, Fresh, step}
use Rattle.model.specs.Log.{after, log, Through, DeviceAfter, OneState}
use Rattle.model.specs.Heard.{heard, calls, answers, told, lives, CaughtEnd, ToldEnd, Loss}

-- Pictures are true. Wherever the answer a is a report end numbered n, live or caught up, the state that starts empty and took all that was told
-- up to there is the device's after report n, and no report end told before bears a greater number.
abbrev pub TrueAtEnds : {S : Type 0} → Meaning S → List Item → List Answered → Type 0
TrueAtEnds P l h =
    (past : List Answered) (a : Answered) (later : List Answered) (n : ℕ) → h ≡ past ++ a ∷ later → ToldEnd n a
    → DeviceAfter P l n (after P P.empty (told (past ++ a ∷ []))) × Each (λ b. (m : ℕ) → ToldEnd m b → m ≤ n) past

-- Live answers are the log. Wherever a is a caught-up report end numbered n and no answer in since is a loss mark, the log goes on after report n with
-- the live answers in since.
abbrev pub Gapless : List Item → List Answered → Type 0
Gapless l h =
    (past : List Answered) (a : Answered) (since later : List Answered) (n : ℕ) → h ≡ past ++ a ∷ (since ++ later) → CaughtEnd n a → Each (λ b. Loss b → ⊥) since
    → (front rest : List Item) × (l ≡ front ++ (lives since ++ rest)) × Through n front

-- And wherever an answer is live, a caught-up report end stands before it, with no loss mark between.
abbrev pub LiveOnlyThere : List Answered → Type 0
LiveOnlyThere h =
    (past : List Answered) (x : Item) (later : List Answered) → h ≡ past ++ live x ∷ later
    → (before : List Answered) × (a : Answered) × (since : List Answered) × (n : ℕ) × (past ≡ before ++ a ∷ since) × CaughtEnd n a × Each (λ b. Loss b → ⊥) since

-- how many items there are from the first to the first report end, both included
abbrev pub up_to_end : List Item → ℕ
up_to_end [] = 0
up_to_end (x ∷ q) = cond (is_report_end x) 1 (suc (up_to_end q))

-- Recovery takes exactly so long. Where the client's next read takes a loss mark, no report is open and no other client holds the grab, and only its reads are
-- called: the read numbered j + d + 1, counted from that one, answers the caught-up report end, and none before it does.
abbrev pub Recovers : {S : Type 0} → Meaning S → World S → ℕ → Type 0
Recovers {S} P w i =
    let j = up_to_end (waiting (seat_at w.core.seats (w.clients i).seat)) in
    let d = P.distance (w.clients i).state w.core.state in
    Loss (step P w (reading i)).answer → w.core.reporting ≡ false → barred w.core.holder (w.clients i).seat ≡ false
    → (ts : List Turn) (v : World S) → Run P w ts v → calls ts ≡ replicate (j + d + 1) (reading i)
    → (before : List Answered) × (a : Answered) × (n : ℕ) × (answers ts ≡ before ++ a ∷ []) × CaughtEnd n a × Each (λ b. (m : ℕ) → CaughtEnd m b → ⊥) before

-- what a client i is promised after the turns ts, at the world w that they led to
pub record Promised {S : Type 0} (P : Meaning S) (ts : List Turn) (w : World S) (i : ℕ) : Type 0 where
  pub one_state : OneState P (log P (calls ts))
  pub true_at_ends : TrueAtEnds P (log P (calls ts)) (heard i ts)
  pub gapless : Gapless (log P (calls ts)) (heard i ts)
  pub live_only_there : LiveOnlyThere (heard i ts)
  pub recovers : Recovers P w i

-- a fact of a contract lies in Type 0, so the part is handed in
abbrev pub Faithful : {S : Type 0} → Meaning S → Type 0
Faithful {S} P = (w v : World S) (ts : List Turn) → Fresh P w → Run P w ts v → (i : ℕ) → Promised P ts v i
