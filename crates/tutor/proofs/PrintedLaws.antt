-- The lines that the program writes say the journeys of the load, its horizon and its mark.
use Rattle.refusal.specs.declared.Accepted.TheVariants.{Taken, Outside}
use Rattle.std.specs.Prelude.{Err, Ok}
use mathlib.Core.Path.{◌≡◌, refl, sym, ap, subst, ◌∙◌}
use mathlib.Core.Bool.{false, true≢false}
use mathlib.Core.List.{List, [], ◌∷◌, ◌++◌, append_assoc}
use Prim.Native.Nat.{ℕ, ◌<◌}
use native.Mathlib.Omega.{arith}
use Rattle.laws.specs.Lists.{All, concat_map}
use Rattle.refusal.specs.First.{is_refused, Answer}
use Rattle.profile.specs.declared.Journey.{Journey}
use Rattle.load.specs.declared.Load.{Load}
use Rattle.lines.specs.Decimal.{spaced}
use Rattle.lines.specs.Lines.{journey_text, journey_line_of, horizon_line_of, refused_line_of, load_lines, lines_of}
use Rattle.lines.proofs.DecimalLaws.{decimal-right}
use Rattle.tutor.specs.Printed.{journey_word, Numbers, newline, number, JourneyLine, journey_line, HorizonLine, horizon_line, RefusedLine}
use Rattle.tutor.specs.Printed.{refused_line, Lines, last, next}

-- figures that are written in five digits at most
pub record Small (j : Journey) : Type 0 where
  pub leave : j.leave < 65536
  pub arrival : j.arrival < 65536
  pub rides : j.rides < 65536
  pub walk : j.walk < 65536
  pub origin : j.origin < 65536
  pub target : j.target < 65536

and_then : (n : ℕ) {ns rest : List ℕ} → n < 65536 → Numbers ns rest → Numbers (n ∷ ns) (spaced n ++ rest)
unfolding spaced
and_then n h p = number (decimal-right n (omega arith)) p

six-parts : (a b c d e f z : List ℕ) → (a ++ (b ++ (c ++ (d ++ (e ++ f))))) ++ z ≡ a ++ (b ++ (c ++ (d ++ (e ++ (f ++ z)))))
six-parts a b c d e f z =
    append_assoc a (b ++ (c ++ (d ++ (e ++ f)))) z
    ∙ ap (λ (r : List ℕ). a ++ r) (append_assoc b (c ++ (d ++ (e ++ f))) z
    ∙ ap (λ (r : List ℕ). b ++ r) (append_assoc c (d ++ (e ++ f)) z
    ∙ ap (λ (r : List ℕ). c ++ r) (append_assoc d (e ++ f) z ∙ ap (λ (r : List ℕ). d ++ r) (append_assoc e f z))))

journey-says : (j : Journey) → Small j → JourneyLine j (journey_line_of j)
unfolding journey_text journey_line_of
journey-says j s =
    subst (λ (r : List ℕ). JourneyLine j (journey_word ++ r))
    (sym (six-parts (spaced j.leave) (spaced j.arrival) (spaced j.rides) (spaced j.walk) (spaced j.origin) (spaced j.target) (10 ∷ [])))
    (journey_line (and_then j.leave s.leave (and_then j.arrival s.arrival
    (and_then j.rides s.rides (and_then j.walk s.walk (and_then j.origin s.origin (and_then j.target s.target newline)))))))

horizon-says : (h m : ℕ) → h < 65536 → m < 65536 → HorizonLine h m (horizon_line_of h m)
unfolding horizon_line_of spaced
horizon-says h m a b = horizon_line (decimal-right h (omega arith)) (and_then m b newline)

pub refused_says : (n : ℕ) → n < 65536 → RefusedLine n (refused_line_of n)
unfolding refused_line_of
refused_says n h = refused_line (and_then n h newline)

pub lines-say : (js : List Journey) (h m : ℕ) → All Small js → h < 65536 → m < 65536
    → Lines js h m (concat_map journey_line_of js ++ horizon_line_of h m)
lines-say [] h m s a b = last (horizon-says h m a b)
lines-say (j ∷ js) h m (p, s) a b =
    subst (Lines (j ∷ js) h m) (sym (append_assoc (journey_line_of j) (concat_map journey_line_of js) (horizon_line_of h m)))
    (next (journey-says j p) (lines-say js h m s a b))

pub lines-load : (a : Answer) (l : Load) → is_refused a ≡ false → lines_of a l ≡ load_lines l
unfolding lines_of
lines-load (Ok Taken) l e = refl
lines-load (Ok Outside) l e = refl
lines-load (Err r) l e = absurd (true≢false e)
