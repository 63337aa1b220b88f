-- Where a screen stands does not matter: from equal pixels, runs that come to no READ, WRITE or SCRSET end with equal states and equal
-- pixels, and count alike. CLS and TREEPUT paint alike, TREEVAL 0 judges by equal depths, and no other word looks at the RAM.
use Prim.Native.Nat.{ℕ, zero, suc, ◌+◌, ◌<◌}
use mathlib.Core.Path.{◌≡◌, refl, sym, ◌∙◌, ap, ap₂, subst, subst₂}
use mathlib.Core.Bool.{Bool, true, false, ◌&&◌, ◌||◌, not}
use mathlib.Core.List.{List}
use native.Mathlib.Omega.{arith}
use lib.ListN.{length}
use lib.Dec.{ltb, eqb}
use borrow.Author.Tests.{ltb-true, eqb-true, ne_eqb}
use Rattle.rules.specs.declared.Screen.{Screen}
use Rattle.rules.specs.Folds.{bit, choose}
use Rattle.rules.specs.Triangles.{top_half}
use Rattle.instructions.specs.declared.Tree.{Tree}
use Rattle.instructions.specs.declared.State.{State}
use Rattle.instructions.specs.Opcodes.{Edition, ST, CALL, READ, WRITE, SCRSET, CLS, TREESET, TREEIN, TREEVAL, TREEPUT}
use Rattle.instructions.specs.Words.{opcode, imm, in_r1, in_r2}
use Rattle.instructions.specs.Arithmetic.{sets_flags}
use Rattle.instructions.specs.Jumps.{next_place}
use Rattle.instructions.specs.Tree.{leaves, mark_i, mark_o, leaf_value, refuses_place, stored_depth, marked, deepened, tree_depth, tree_colour}
use Rattle.instructions.specs.Tree.{tree_val}
use Rattle.instructions.specs.Halts.{word_at, move_outside_ram, no_screen, no_tree, word_halt, halt_number}
use Rattle.instructions.specs.Step.{Machine, together, with_registers, with_place, with_flags, with_halt, with_tree, after_result, after_st}
use Rattle.instructions.specs.Step.{after_call, after_cls, after_treeset, grown, after_treein, after_treeval, after_treeput, effect, performed}
use Rattle.instructions.specs.Step.{is_halted, next_halt, step}
use Rattle.instructions.specs.Run.{run, is_counted, steps, ill_formed}
use Rattle.instructions.proofs.Leaves.{leaves_same}
use Rattle.instructions.proofs.Halts.{NoHalt, in_program, goes_on, CLS_shown, TREEVAL-planted, TREEPUT-planted}
use Rattle.instructions.proofs.Standing.{leaf_on}
use Rattle.instructions.proofs.Run.{step_halted, step_halting, step_counted}
use Rattle.instructions.proofs.WellFormed.{WellFormed, well_formed_facts, step_well_formed}
use Rattle.paints.specs.Runs.{ComesTo, KeepsToPixels}
use Rattle.paints.specs.Alike.{Starts, screen_at, state_at, SamePixels, Alike}
use Rattle.paints.proofs.Put.{tree_put_paints}
use Rattle.paints.proofs.Same.{painted_alike, cleared_alike}

-- a relation that holds on both ways of one test
pick₂ : {A B : Type 0} (R : A → B → Type 0) (t : Bool) {x y : A} {x' y' : B}
    → (t ≡ true → R x x')
    → (t ≡ false → R y y')
    → R (choose t x y) (choose t x' y')
pick₂ R t {x} {y} {x'} {y'} p q = go t p q
  where
    go : (c : Bool) → (c ≡ true → R x x') → (c ≡ false → R y y') → R (choose c x y) (choose c x' y')
    go true p q = p refl
    go false p q = q refl

-- TREEVAL judges by equal depths
module _ (p : Starts) (s : Screen) (r r' : List ℕ) (same : SamePixels s r (screen_at p s) r')
    (t : Tree) (place : refuses_place s t.column t.row ≡ false) (a b : ℕ) where
  judged_alike : (kind : ℕ) → tree_val kind (screen_at p s) r' a b t ≡ tree_val kind s r a b t
  unfolding tree_val
  judged_alike kind = ap (λ u. choose (eqb kind 0) u (tree_colour kind a b t)) depths
    where
      stored : (k : ℕ) → k < 16 → stored_depth (screen_at p s) r' t k ≡ stored_depth s r t k
      stored k h = let on = leaf_on s t.column t.row place h in sym (same (t.column + k) t.row on.across on.down).1

      inside : leaves (λ k. mark_i t k && not (ltb (stored_depth (screen_at p s) r' t k) (top_half (leaf_value a b k))))
          ≡ leaves (λ k. mark_i t k && not (ltb (stored_depth s r t k) (top_half (leaf_value a b k))))
      inside = leaves_same (λ k h. ap (λ d. mark_i t k && not (ltb d (top_half (leaf_value a b k)))) (stored k h))

      outside : leaves (λ k. mark_o t k || ltb (stored_depth (screen_at p s) r' t k) (top_half (leaf_value a b k)))
          ≡ leaves (λ k. mark_o t k || ltb (stored_depth s r t k) (top_half (leaf_value a b k)))
      outside = leaves_same (λ k h. ap (λ d. mark_o t k || ltb d (top_half (leaf_value a b k))) (stored k h))

      depths : tree_depth (screen_at p s) r' a b t ≡ tree_depth s r a b t
      depths = unfold tree_depth marked deepened in λ i. record {
        column = t.column;
        row = t.row;
        inside = inside i;
        outside = outside i;
        colour = t.colour;
        depth = leaves (λ k. top_half (leaf_value a b k));
        held = true;
      }

-- a machine, and its like with a RAM r
module _ (edition : Edition) (p : Starts) (m : Machine) (r : List ℕ)
    (same : SamePixels m.state.screen m.ram (screen_at p m.state.screen) r)
    (good : WellFormed (length m.ram) m.state)
    (good' : WellFormed (length r) (state_at p m.state)) where
  abbrev like : Machine
  like = together (state_at p m.state) m.memory r

  abbrev st : State
  st = m.state

  effect_alike : (w : ℕ) → NoHalt edition (length m.ram) st w → KeepsToPixels w → Alike p (effect m w) (effect like w)
  unfolding effect after_result after_st after_call after_cls after_treeset after_treein after_treeval after_treeput
      grown with_registers with_flags with_tree
  effect_alike w n (no_read, no_write, no_scrset) =
      pick₂ (Alike p) (sets_flags (opcode w)) (λ e. record { state = refl; memory = refl; pixels = same }) λ e.
      pick₂ (Alike p) (eqb (opcode w) ST) (λ e. record { state = refl; memory = refl; pixels = same }) λ e.
      pick₂ (Alike p) (eqb (opcode w) CALL) (λ e. record { state = refl; memory = refl; pixels = same }) λ e.
      pick₂ (Alike p) (eqb (opcode w) READ) (λ e. absurd (no_read (eqb-true (opcode w) READ e))) λ e.
      pick₂ (Alike p) (eqb (opcode w) WRITE) (λ e. absurd (no_write (eqb-true (opcode w) WRITE e))) λ e.
      pick₂ (Alike p) (eqb (opcode w) SCRSET) (λ e. absurd (no_scrset (eqb-true (opcode w) SCRSET e))) λ e.
      pick₂ (Alike p) (eqb (opcode w) CLS) (λ e. record {
        state = refl;
        memory = refl;
        pixels =
            let shown = CLS_shown n (eqb-true (opcode w) CLS e) in
            cleared_alike p st.screen m.ram r same (good.screen_sound shown) (good'.screen_sound shown) _ _;
      }) λ e.
      pick₂ (Alike p) (eqb (opcode w) TREESET) (λ e. record { state = refl; memory = refl; pixels = same }) λ e.
      pick₂ (Alike p) (eqb (opcode w) TREEIN) (λ e. record { state = refl; memory = refl; pixels = same }) λ e.
      pick₂ (Alike p) (eqb (opcode w) TREEVAL) (λ e. record {
        state = ap (λ u. state_at p (grown st w u)) (judged (TREEVAL-planted n (eqb-true (opcode w) TREEVAL e)));
        memory = refl;
        pixels = same;
      }) λ e.
      pick₂ (Alike p) (eqb (opcode w) TREEPUT) (λ e. record {
        state = refl;
        memory = refl;
        pixels = put_alike (TREEPUT-planted n (eqb-true (opcode w) TREEPUT e));
      }) λ e.
      record { state = refl; memory = refl; pixels = same }
    where
      judged : st.planted ≡ true
          → tree_val (imm w) (screen_at p st.screen) r (in_r1 st.regs w) (in_r2 st.regs w) st.tree
          ≡ tree_val (imm w) st.screen m.ram (in_r1 st.regs w) (in_r2 st.regs w) st.tree
      judged h = judged_alike p st.screen m.ram r same st.tree (good.tree_place h) (in_r1 st.regs w) (in_r2 st.regs w) (imm w)

      put_alike : st.planted ≡ true → SamePixels st.screen (after_treeput m).ram (screen_at p st.screen) (after_treeput like).ram
      put_alike h =
          let shown = good.tree_shown h in
          painted_alike p
          (tree_put_paints st.screen m.ram (good.screen_sound shown) st.tree (good.tree_place h))
          (tree_put_paints (screen_at p st.screen) r (good'.screen_sound shown) st.tree (good'.tree_place h))
          same

  performed_alike : (w : ℕ) → NoHalt edition (length m.ram) st w → KeepsToPixels w → Alike p (performed m w) (performed like w)
  unfolding performed with_place next_place
  performed_alike w n h =
      let e : Alike p (effect m w) (effect like w) = effect_alike w n h in
      record { state = ap (with_place (next_place st w)) e.state; memory = e.memory; pixels = e.pixels }

  word_alike : (w : ℕ) → KeepsToPixels w → word_halt edition (length r) (state_at p st) w ≡ word_halt edition (length m.ram) st w
  unfolding word_halt move_outside_ram no_screen no_tree refuses_place
  word_alike w (no_read, no_write, no_scrset) =
      rw (ne_eqb (opcode w) READ no_read, ne_eqb (opcode w) WRITE no_write, ne_eqb (opcode w) SCRSET no_scrset)

  -- one step
  module _ (program : List ℕ) (keeps : st.place < length program → KeepsToPixels (word_at program st)) where
    halt_alike : next_halt edition program like ≡ next_halt edition program m
    unfolding halt_number
    halt_alike = go (ltb st.place (length program)) refl
      where
        go : (t : Bool) → ltb st.place (length program) ≡ t
            → choose (not t) 12 (word_halt edition (length r) (state_at p st) (word_at program st))
            ≡ choose (not t) 12 (word_halt edition (length m.ram) st (word_at program st))
        go true e = word_alike (word_at program st) (keeps (ltb-true _ _ e))
        go false e = refl

    counted_alike : is_counted edition program like ≡ is_counted edition program m
    unfolding is_counted
    counted_alike = ap (λ n. not (is_halted m) && eqb n 0) halt_alike

    step_like : Alike p (step edition program m) (step edition program like)
    step_like = go (is_halted m) (eqb (next_halt edition program m) 0) refl refl
      where
        counted : is_halted m ≡ false → eqb (next_halt edition program m) 0 ≡ true → is_counted edition program m ≡ true
        counted e f = unfold is_counted in rw (e, f)

        go : (a b : Bool) → is_halted m ≡ a → eqb (next_halt edition program m) 0 ≡ b
            → Alike p (step edition program m) (step edition program like)
        go true b e f =
            subst₂ (Alike p) (sym (step_halted edition program m e)) (sym (step_halted edition program like e))
            (record { state = refl; memory = refl; pixels = same })
        go false true e f =
            let c : is_counted edition program m ≡ true = counted e f in
            let none : next_halt edition program m ≡ 0 = eqb-true (next_halt edition program m) 0 f in
            subst₂ (Alike p) (sym (step_counted edition program m c)) (sym (step_counted edition program like (counted_alike ∙ c)))
            (performed_alike (word_at program st)
            (goes_on edition program (length m.ram) st none)
            (keeps (in_program edition program (length m.ram) st none)))
        go false false e f =
            subst₂ (Alike p)
            (sym (step_halting edition program m e f))
            (sym (step_halting edition program like e (ap (λ n. eqb n 0) halt_alike ∙ f)))
            (record {
              state = unfold with_halt in ap (λ n. with_halt n (state_at p st)) halt_alike;
              memory = refl;
              pixels = unfold with_halt in same;
            })

abbrev IsGood : Machine → Type 0
IsGood m = ill_formed (length m.ram) m.state ≡ false

module _ (p : Starts) (edition : Edition) (program : List ℕ) where
  pub step_alike : (m k : Machine)
      → Alike p m k
      → IsGood m
      → IsGood k
      → (m.state.place < length program → KeepsToPixels (word_at program m.state))
      → Alike p (step edition program m) (step edition program k) × (is_counted edition program k ≡ is_counted edition program m)
  step_alike m k a good good' keeps =
      subst
      (λ (z : Machine). IsGood z
      → Alike p (step edition program m) (step edition program z) × (is_counted edition program z ≡ is_counted edition program m))
      (sym is_like)
      (λ g. let f = well_formed_facts good in let f' = well_formed_facts g in (
        step_like edition p m k.ram a.pixels f f' program keeps,
        counted_alike edition p m k.ram a.pixels f f' program keeps,
      ))
      good'
    where
      is_like : k ≡ together (state_at p m.state) m.memory k.ram
      is_like = λ i. record { state = a.state i; memory = a.memory i; ram = k.ram }

  pub run_alike : (n : ℕ) (m k : Machine)
      → Alike p m k
      → IsGood m
      → IsGood k
      → ComesTo KeepsToPixels edition program n m
      → Alike p (run edition program n m) (run edition program n k) × (steps edition program n k ≡ steps edition program n m)
  unfolding run steps
  run_alike zero m k a good good' h = (a, refl)
  run_alike (suc n) m k a good good' h =
      let (b, c) = step_alike m k a good good' (h 0 (omega arith)) in
      let (d, e) =
      run_alike n (step edition program m) (step edition program k) b
      (step_well_formed edition program m good) (step_well_formed edition program k good')
      (λ i l. h (suc i) (omega arith))
      in
      (d, ap₂ (λ t j. bit t + j) c e)
