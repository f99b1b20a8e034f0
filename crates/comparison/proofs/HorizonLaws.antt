-- A call fits as it is stated here: the program's table shows the calls taken, and its cuts are those of the relation.
use Rattle.refusal.specs.declared.Accepted.TheVariants.{Taken, Outside}
use Rattle.std.specs.Prelude.{None, Option, Some, Err, Ok}
use Prim.Native.Nat.{ℕ, ◌≤◌}
use mathlib.Core.Path.{◌≡◌, refl, sym, ap, subst, ◌∙◌}
use mathlib.Core.Bool.{Bool, false, cond, true≢false}
use mathlib.Core.List.{List, [], ◌∷◌, ◌++◌, Memᴰ}
use native.Mathlib.Omega.{arith}
use lib.ListN.{length, length-take}
use Rattle.refusal.specs.declared.Refusal.TheVariants.{NoRoom}
use Rattle.refusal.specs.First.{first_answer, is_refused, Answer}
use Rattle.settings.specs.declared.Settings.{Settings}
use Rattle.settings.specs.Settings.{canonical_of}
use Rattle.calls.specs.declared.CallInput.{CallInput}
use Rattle.calls.specs.declared.Call.{Call}
use Rattle.calls.specs.declared.Table.{Table}
use Rattle.calls.specs.Tried.{Tried}
use Rattle.calls.specs.Windows.{seen}
use Rattle.calls.specs.Tables.{cut}
use Rattle.calls.specs.Calls.{un_timed, call_tests, call_time, window, call_fit, goes_on_of, call_on}
use Rattle.calls.specs.Shown.{shown, windowed, table_calls}
use Rattle.calls.proofs.Fits.{Ends, stands, enters, turned, ends, Keeps}
use Rattle.calls.proofs.SoundLaws.{passed}
use Rattle.calls.proofs.ShownLaws as shows
use Rattle.calls.proofs.ShownLaws.{Showing, showing-keeps}
use Rattle.load.specs.declared.Load.{Load}
use Rattle.load.specs.Load.{table_of}
use Rattle.load.specs.FillStep.{FillStep}
use Rattle.comparison.specs.Window.{Seen, Shown, empty, one, pass}
use Rattle.comparison.specs.Taken.{calls_in}
use Rattle.comparison.specs.Horizon as cuts
use Rattle.comparison.specs.Horizon.{Fits}
use Rattle.comparison.proofs.WindowLaws.{seen-shown, window-seen}
use Rattle.comparison.proofs.TakenLaws.{tests-untimed, tests-day}
use Rattle.comparison.proofs.SettingLaws.{Opened}
use Rattle.comparison.proofs.StartLaws.{Start}
use Rattle.comparison.proofs.AdmittedLaws.{window_same}

-- ---- what is seen of a list

module _ (s : Settings) (o : Opened s) (h : ℕ) where
  unseen : (i : CallInput) → i.day ≤ 2 → window s h i ≡ None → (c : Call) → Seen s h i c → ⊥
  unseen i d e c v = let q : None ≡ Some c = sym e ∙ seen-shown s h i (o.clock i.day d) c v in cc

  shown-is : (is : List CallInput) → ((i : CallInput) → Memᴰ i is → i.day ≤ 2) → Shown s h is (windowed s h is)
  shown-is [] f = empty
  shown-is (i ∷ is) f = go (window s h i) refl (shown-is is (λ j m. f j (Memᴰ.tail m)))
    where
      go : (v : Option Call) → window s h i ≡ v → Shown s h is (windowed s h is) → Shown s h (i ∷ is) (shown v ++ windowed s h is)
      go (Some c) e w = one (window-seen s h i c e) w
      go None e w = pass (unseen i (f i (Memᴰ.head refl)) e) w

windowed-same : (s : Settings) (h : ℕ) (is : List CallInput) → windowed (canonical_of s) h is ≡ windowed s h is
windowed-same s h [] = refl
windowed-same s h (i ∷ is) = λ k. shown (window_same s h i k) ++ windowed-same s h is k

-- ---- one call

module _ (s : Settings) (o : Opened s) (is : List CallInput) (days : (j : CallInput) → Memᴰ j is → j.day ≤ 2) where
  abbrev z : Settings
  z = canonical_of s

  pub table-shown : (t : Table) → Showing z is t → Shown s t.horizon is (table_calls t)
  table-shown t w = subst (Shown s t.horizon is) (sym (w.shows ∙ windowed-same s t.horizon is)) (shown-is s o t.horizon is days)

  table-long : (t : Table) → Showing z is t → length (table_calls t) ≡ t.count
  table-long t w = simp length-take (omega (arith, w.sound.few, w.sound.long))

  module _ (i : CallInput) where
    -- the table shows the calls, and what fits from it fits from h
    record Came (h m : ℕ) (t : Table) : Type 0 where
      showing : Showing z is t
      on : (a : Answer) (g n : ℕ) → Fits s is i t.horizon t.limits a g n → Fits s is i h m a g n

    module _ (present : un_timed i ≡ false) (day : i.day ≤ 2) where
      abbrev a : Option ℕ
      a = call_time z i i.arrival

      abbrev d : Option ℕ
      d = call_time z i i.departure

      seen-window : (h : ℕ) (v : Option Call) → seen h a d i ≡ v → window s h i ≡ v
      seen-window h v e = sym (window_same s h i) ∙ shows.window-seen z h i present ∙ e

      seen-so : (t : Table) (c : Call) → seen t.horizon a d i ≡ Some c → Seen s t.horizon i c
      seen-so t c e = window-seen s t.horizon i c (seen-window t.horizon (Some c) e)

      came-keeps : (h m : ℕ) → Keeps (Came h m) a d i
      unfolding cut
      came-keeps h m t c w e f l = record {
        showing = showing-keeps z is a d i t c w.showing e f l;
        on = λ x g n k. w.on x g n (cuts.cut (seen-so t c e) (table-shown t w.showing) (omega (arith, table-long t w.showing, f)) l k);
      }

      ends-fits : (h m : ℕ) (f : Tried) → Ends (Came h m) a d i f → Fits s is i h m f.answer f.table.horizon f.table.limits
      ends-fits h m _ (stands t p e) = p.on (Ok Outside) t.horizon t.limits
          (cuts.outside (unseen s o t.horizon i day (seen-window t.horizon None e)))
      ends-fits h m _ (enters t c p e r) = p.on (Ok Taken) t.horizon t.limits
          (cuts.room (seen-so t c e) (table-shown t p.showing) (omega (arith, table-long t p.showing, r)))
      ends-fits h m _ (turned t c p e r l) =
          p.on (Err NoRoom) t.horizon t.limits (cuts.full (seen-so t c e) (table-shown t p.showing)
          (omega (arith, table-long t p.showing, r)) l)

      pub fits : (t : Table) → Showing z is t → Fits s is i t.horizon t.limits (call_fit z t i).answer (call_fit z t i).table.horizon
          (call_fit z t i).table.limits
      unfolding call_fit
      fits t w = ends-fits t.horizon t.limits _ (ends (Came t.horizon t.limits) a d i (came-keeps t.horizon t.limits) t
          (record { showing = w; on = λ x g n k. k }))

    -- the whole step, where it is not sent back
    pub call_fits : (b : Bool) (n : ℕ) (t : Table) → Showing z is t → is_refused (call_on z b n t i).answer ≡ false
        → Fits s is i t.horizon t.limits (call_on z b n t i).answer (call_on z b n t i).table.horizon (call_on z b n t i).table.limits
    unfolding call_on
    call_fits b n t w = go (first_answer (call_tests b n i)) refl
      where
        both-given : (c : Call) → Seen s t.horizon i c → un_timed i ≡ false
        both-given c v = rw (v.arrives, v.departs)

        go : (x : Answer) → first_answer (call_tests b n i) ≡ x → is_refused (goes_on_of z t i x).answer ≡ false
            → Fits s is i t.horizon t.limits (goes_on_of z t i x).answer (goes_on_of z t i x).table.horizon
            (goes_on_of z t i x).table.limits
        go (Err r) e q = absurd (true≢false q)
        go (Ok Outside) e q = cuts.outside (λ c v. true≢false (sym (tests-untimed b n i e) ∙ both-given c v))
        go (Ok Taken) e q =
            subst (λ (c : Bool). Fits s is i t.horizon t.limits (call_fit z t i).answer (cond c t (call_fit z t i).table).horizon
            (cond c t (call_fit z t i).table).limits) (sym q)
            (fits (passed b n i e).present (tests-day b n i e) t w)

-- the table of a load shows what was taken
pub showing : (s : Settings) (l : Load) (fs : List FillStep) → Start s l fs → Showing (canonical_of s) (calls_in fs) (table_of l)
showing s l fs w = record {
  sound = w.sound.table;
  shows = w.held.calls ∙ ap (λ (x : Settings). windowed x l.table_horizon (calls_in fs)) w.settings;
}
