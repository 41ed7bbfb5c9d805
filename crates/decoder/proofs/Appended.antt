-- A list of bytes after another.
use Rattle.std.proofs.Common.{◌≡◌, ℕ, List, [], ◌∷◌, ◌++◌, sym, refl, ap, ◌∙◌, append_assoc}
use Rattle.events.specs.declared.items.Event.{Event}
use Rattle.decoder.specs.declared.Decoder.{Decoder}
use Rattle.decoder.specs.Offers.{events_of}
use Rattle.decoder.specs.Steps.{step}
use Rattle.decoder.specs.Runs.{after, offered}

pub after-++ : (bs cs : List ℕ) (d : Decoder) → after d (bs ++ cs) ≡ after (after d bs) cs
after-++ [] cs d = refl
after-++ (b ∷ bs) cs d = after-++ bs cs (step d b).decoder

pub offered-++ : (bs cs : List ℕ) (d : Decoder) → offered d (bs ++ cs) ≡ offered d bs ++ offered (after d bs) cs
offered-++ [] cs d = refl
offered-++ (b ∷ bs) cs d =
    ap (λ (es : List Event). events_of (step d b).offer ++ es) (offered-++ bs cs (step d b).decoder)
    ∙ sym (append_assoc (events_of (step d b).offer) (offered (step d b).decoder bs) (offered (after (step d b).decoder bs) cs))
