-- The lines of one device: one for each report end that a client is told, live or caught up, with the client's picture as it then is.
use Rattle.std.specs.Prelude.{◌≡◌, ℕ, ◌≤◌, Bool, true, false, cond, List, [], ◌∷◌, ◌++◌, Ok, ◌==◌}
use Rattle.std.specs.List.{AllByRecursion as Each}
use Rattle.events.specs.Items.{is_report_end}
use Rattle.events.specs.declared.items.Item.{Item}
use Rattle.parts.specs.Meaning.{Meaning}
use Rattle.model.specs.declared.Call.{Call}
use Rattle.model.specs.declared.Call.TheVariants.{Event as event, Report as report, Open as opening, Close as closing, Grab as grab, Release as release, Read as reading}
use Rattle.model.specs.Answers.{Answered, number}
use Rattle.model.specs.declared.Answer.TheVariants.{Read}
use Rattle.model.specs.declared.Read.TheVariants.{Live, CaughtUp}
use Rattle.model.specs.Runs.{World, Turn, Fresh, step}
use Rattle.model.specs.Log.{log, DeviceAfter}
use Rattle.model.specs.Replays.{turns, world_after}

-- a line: the report end's number, whose read it was, whether it was told live or caught up, and the client's state as it then is
pub record Line (S : Type 0) : Type 0 where
  pub number : ℕ
  pub client : ℕ
  pub live : Bool
  pub state : S

module _ {S : Type 0} where
  -- a report end makes a line, any other item none
  abbrev pub end_lines : Bool → ℕ → S → Item → List (Line S)
  end_lines l i s x = cond (is_report_end x) (record { number = x.number; client = i; live = l; state = s } ∷ []) []

  -- what an answer makes for client i whose state is now s
  abbrev pub answer_lines : ℕ → S → Answered → List (Line S)
  answer_lines i s (Ok (Read (Live x))) = end_lines true i s x
  answer_lines i s (Ok (Read (CaughtUp x))) = end_lines false i s x
  answer_lines i s _ = []

  -- what a call makes, at the world that it leaves
  abbrev pub call_lines : World S → Call → Answered → List (Line S)
  call_lines w (reading i) a = answer_lines i (w.clients i).state a
  call_lines w (event t e) a = []
  call_lines w (report t) a = []
  call_lines w (opening i s capacity) a = []
  call_lines w (closing i) a = []
  call_lines w (grab i) a = []
  call_lines w (release d s t) a = []

  -- the lines of a list of calls
  abbrev pub lines : Meaning S → World S → List Call → List (Line S)
  lines P w [] = []
  lines P w (c ∷ cs) = call_lines (step P w c).world c (step P w c).answer ++ lines P (step P w c).world cs

  -- the numbers of a client's lines, in order
  abbrev pub numbers : ℕ → List (Line S) → List ℕ
  numbers i [] = []
  numbers i (x ∷ xs) = cond (x.client == i) (x.number ∷ numbers i xs) (numbers i xs)

-- no number is greater than a later one
abbrev pub Rising : List ℕ → Type 0
Rising [] = Unit {0}
Rising (n ∷ ns) = Each (λ m. n ≤ m) ns × Rising ns

-- the call opened a seat for the client
abbrev pub Opens : ℕ → Turn → Type 0
Opens i t = (s capacity n : ℕ) × (t.call ≡ opening i s capacity) × (t.answer ≡ number n)

-- Every line numbered n shows the device's state after report n, by the log of all the calls.
abbrev pub LinesTrue : {S : Type 0} → Meaning S → Type 0
LinesTrue {S} P = (w : World S) (cs : List Call) → Fresh P w → Each (λ (x : Line S). DeviceAfter P (log P cs) x.number x.state) (lines P w cs)

-- Over calls that do not open a seat for the client, the numbers of its lines never fall.
abbrev pub NumbersRise : {S : Type 0} → Meaning S → Type 0
NumbersRise {S} P =
    (w : World S) (early during : List Call) (i : ℕ) → Fresh P w
    → Each (λ t. Opens i t → ⊥) (turns P (world_after P w early) during) → Rising (numbers i (lines P (world_after P w early) during))
