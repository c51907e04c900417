-- `kcore_keeper_changes` moves the content out of the memory at the place and back, and hands out the answer.
use Rattle.std.proofs.Common.{◌≡◌, [], ◌∷◌, refl, ap, w64}
use Rattle.std.proofs.raw_atomic.Walks.{proved}
use base.Fraction.{full_share}
use base.Logic.{id⊢, emp}
use base.Fml.{fat, flft, ftrue}
use mir.Syntax.{named}
use denote.Slice.{MutSlice, slice_val, mut_slice_vals, mut_slice_Tells}
use Rattle.std.specs.Prelude.{length}
use mir.Val.{Val, vint}
use contract.Monad.{fact, fact_i}
use contract.Running.{tables}
use types.Kit.{‵, raw, prop, some, later, ◌⊛◌, ◌$◌, ◌∵◌, !, qed, done, drop, use0, use1, use2}
use types.Kit.{pick, split, join, fsplit, fjoin, rewrite, feq_l, move, regoal, suffices, group, await}
use types.Part.{whole, sub, agg}
use types.Run.{enter, addr, from, fld, hop, of_opd, load, look, store, stop, assigns, returns, and_then, no_more}
use types.ByLocal.{alloc_all, pass_all, free_all, look_at, look_in_at, get, get_in, through, sets, lands_as}
use denote.Builtin.{usize}
use denote.Exit.{yes}
use denote.Laws.{Is, shows}
use denote.Memory.{part_at}
use denote.Plain.{uint_Makes, uint_vals, uint_Tells}
use denote.RawPtr.{Ptr, ptr_val, RawPtr, block_ptr, lies_at, in_a_block, rawptr_vals, rawptr_Tells}
use denote.Signature.{plain}
use denote.Steps.{nothing, peeks, owned, heard, only}
use denote.Param.{layout}
use denote.Triple.Call.{calls_at}
use denote.Triple.Clauses.{lasts, Lasts}
use denote.Triple.Spec.{triple_of}
use denote.Triple.Table.{framed}
use denote.Triple.Walked.{Stays, walk_of, stay_dropped, gave_slice, Goes-dropped, Goes-gave_slice, ends_at}
use borrow.Table.OneValue.{part_out, part_in}
use prog.Wp.{WpFn}
use Rattle.kc_keeper.specs.contracts.changes.CoreChange.{the_row as change_row}
use Rattle.kc_c.specs.Keeping.{ChangesAt}
use Rattle.kc_c.specs.declared.keeping.Content.{Content}
use Rattle.kc_c.specs.declared.keeping.CallEnd.{CallEnd}
use Rattle.kc_c.specs.contracts.keeping.Content.{the_row}
use Rattle.kc_c.proofs.keeping.Content.TheLaws.{the_row_laws}
use Rattle.kc_c.specs.contracts.answer.CallResult.{the_row as answer_row}
use Rattle.kc_c.proofs.answer.CallResult.TheLaws.{the_row_laws as answer_laws}
use Rattle.kc_c.proofs.Two.{Two, both_tt, two_out}
use Rattle.kc_c.specs.contracts.keeping.read_changes as g
use Rattle.kc_c.proofs.keeping.read_changes.Met.{met}
use Rattle.kc_c.specs.contracts.keeper.kcore_keeper_changes as f
use Rattle.kc_c.proofs.keeper.kcore_keeper_changes.Statement.{statement}
use Rattle.kc_c.proofs.keeper.kcore_keeper_changes.Code as code

abbrev stayed : Stays f.ended.signature.params f.ended.kept
stayed = (stay_dropped _ yes, (stay_dropped _ yes, (gave_slice (0 ∷ []) tt (plain (λ _. change_row)), tt)))

pub kcore_keeper_changes_spec : {M : Type 1} → statement M
kcore_keeper_changes_spec 𝓤 𝓛 𝓜 𝓡 wired =
    let c = f.clauses 𝓛 𝓜.mem 𝓡.returns in let W = walk_of 𝓛 f.ended stayed c in let 𝓣 = tables 𝓤 𝓛.H 𝓜 𝓡 𝓡.env in
    let number = Goes-dropped 𝓛 1 (plain (λ _. usize)) yes (λ κs x w. refl) in
    proved 𝓛 f.ended stayed c 𝓜 𝓡 (
      Goes-dropped 𝓛 1 (plain (λ _. RawPtr)) yes (λ κs x w. refl),
      (number, (Goes-gave_slice 𝓛 1 0 tt (plain (λ _. change_row)), tt)),
    )
    f.Key.name code.function (code.unfolded 𝓤 𝓛.H 𝓜 𝓡 wired)
    (λ κs. (rawptr_vals, (uint_vals w64, (mut_slice_vals, tt))))
    (λ κs. (rawptr_Tells, (uint_Tells w64, (mut_slice_Tells (named 0) κs.0 change_row, tt)))) (λ κs qs bounds a n are.
    let k = a.1.0 in let fk = are.1.0.1 in let s = a.1.1.0 in let fs = are.1.1.0.0.1.0 in let Token = ‵ (flft κs.0 qs.0) ⊛ ‵ ftrue in
    let y : Ptr → W.Ghost = λ p. ((κs, qs, bounds, (p, (k, (s, tt))), (rawptr_vals p, (uint_vals w64 k, (mut_slice_vals s, tt)))), n) in
    let G = triple_of 𝓛 g.signature (g.spec 𝓛 𝓜.mem 𝓡.returns) in
    qed 𝓛 ((Token ⊛ ‵ (RawPtr.own_val a.0 (rawptr_vals a.0)) ⊛ ‵ (usize.own_val k (uint_vals w64 k))
    ⊛ ‵ ((MutSlice (named 0) κs.0 change_row).own_val s (mut_slice_vals s))
    ⊛ ‵ ftrue) ∷ ‵ (lies_at the_row full_share a.0 n) ∷ []) ∵
    split ! $ move ! (1 ∷ []) $ split ! $ drop ! $ split ! $ drop ! $ split ! $ move ! (1 ∷ []) $ drop ! $ move ! (2 ∷ []) $
    -- [the content; the slice; the token]
    in_a_block ! a.0 (λ p. lies_at the_row full_share p n) (id⊢ 𝓤 _) (λ b o e.
    regoal ! (λ p. prop (WpFn 𝓤 𝓛.H 𝓣.C 𝓣.Λ code.function (ptr_val p ∷ vint w64 k ∷ slice_val s.ref_ptr (length s.now) ∷ []) (W.post (y p)))) e refl $
    use1 𝓛 (some (λ (v : Val). ‵ (fat full_share (layout the_row) b o v) ⊛ ‵ (the_row.own_val n (v ∷ [])))) (part_out 𝓛 the_row refl full_share n b o) $
    pick ! (λ v. split ! $ move ! (1 ∷ []) $
    peeks ! the_row (Is the_row) (shows 𝓛 the_row) n (v ∷ []) (λ is.
    let t = ((the_row_laws.lawful 𝓛).typed n (v ∷ []) is).0 in
    enter ! _ _ _ _ _ $ alloc_all ! (λ l. pass_all ! refl ((tt, tt), ((tt, record { fits = fk }), ((tt, (tt, (record { fits = fs }, tt))), tt))) $
    -- [what the content owns; its cell; the slice; the token; the locals]
    sets ! (of_opd ! (get ! refl)) refl (tt, tt) $
    sets ! (of_opd ! (load ! (through ! refl (stop !)) (look ! 1 refl))) refl t $
    sets ! (addr ! (from ! (fld ! refl (hop ! (look_in_at ! 3 (sub ! 0 refl (whole !))) (stop !))))) refl (tt, tt) $
    sets ! (agg ! (and_then ! (get ! refl) (and_then ! (get_in ! (fld ! refl (stop !)) (sub ! 1 refl (whole !))) (no_more !)))) refl (
      tt,
      (
        tt,
        (record { fits = fs }, tt),
      ),
    ) $
    let z : G.Ghost = ((κs, qs, bounds, (n, (k, (s, tt))), (v ∷ [], (uint_vals w64 k, (mut_slice_vals s, tt)))), tt) in
    move ! (0 ∷ 2 ∷ 3 ∷ []) $ nothing ! $ move ! (2 ∷ 0 ∷ []) $ fjoin ! $ owned ! usize _ (uint_Makes 𝓛 w64) k _ (refl, fk) $ fjoin ! $
    move ! (1 ∷ 0 ∷ []) $ fjoin ! $
    move ! (1 ∷ 0 ∷ []) $ join ! $ nothing ! $ move ! (1 ∷ 0 ∷ []) $ join ! $ use1 𝓛 (raw (G.pre z)) (id⊢ 𝓤 _) $
    calls_at ! (framed 𝓤 𝓛.H 𝓜 (tables 𝓤 𝓛.H 𝓜 𝓡 𝓡.env)) G (met 𝓤 𝓛 𝓜 𝓡 (code.calls-kc_c::keeping::read_changes 𝓡.env wired)) z
    (and_then ! (get ! refl) (and_then ! (get ! refl) (and_then ! (get ! refl) (no_more !)))) (λ out.
    use1 𝓛 (later (some (λ (r : CallEnd). (Token ⊛ ‵ ((Two the_row answer_row).own_val (r.content, (r.answer, tt)) (out ∷ []))) ⊛
    some (λ (ws : Lasts g.ended κs z.0.3). ‵ (lasts g.ended κs z.0.3 ws)
    ⊛ (raw (fact 𝓤 (r.content ≡ n)) ⊛ raw (fact 𝓤 (ChangesAt n k s.now ws.1.1.0 r.answer))))))) (id⊢ 𝓤 _) $
    await ! tt $ pick ! (λ r. split ! $ move ! (1 ∷ []) $ pick ! (λ ws. split ! $ move ! (1 ∷ []) $ split ! $ heard ! _ (λ same. heard ! _ (λ ok.
    fsplit ! $ drop ! $ fsplit ! $ drop ! $ fsplit ! $ fsplit ! $ fsplit ! $ move ! (1 ∷ []) $
    feq_l ! (λ len. fjoin ! $ move ! (1 ∷ []) $ drop ! $ move ! (1 ∷ []) $
    split ! $ move ! (1 ∷ []) $
    -- [content and answer; the token; what is known of the slice; the cell]
    two_out the_row answer_row r.content r.answer ! refl refl (the_row_laws.lawful 𝓛) (answer_laws.lawful 𝓛) (out ∷ []) (λ w₁ w₂ t₁ t₂ is₂.
    -- [what the content owns; what the answer owns; the token; what is known of the slice; the cell]
    lands_as ! (ap only is₂) refl (both_tt _ _ t₁.0 t₂.0, (t₁.1, (t₂.1, tt))) $
    sets ! (of_opd ! (get_in ! (fld ! refl (stop !)) (sub ! 0 refl (whole !)))) refl t₁ $
    sets ! (of_opd ! (get_in ! (fld ! refl (stop !)) (sub ! 1 refl (whole !)))) refl t₂ $
    sets ! (of_opd ! (get ! refl)) refl t₁ $
    assigns ! (of_opd ! (get ! refl)) (through ! refl (stop !)) (store ! 4 refl t₁) $
    sets ! (of_opd ! (get ! refl)) refl t₂ $
    returns ! (look_at ! 0 refl) $ free_all ! refl $
    move ! (4 ∷ 0 ∷ []) $ use2 𝓛 (‵ (part_at the_row full_share r.content b o)) (part_in 𝓛 the_row refl full_share r.content b o w₁) $
    rewrite ! 0 (λ (w : Content). ‵ (part_at the_row full_share w b o)) same refl $
    suffices ! _ (ends_at 𝓛 f.ended stayed c (y (block_ptr b o)) w₂ r.answer (tt, (tt, (ws.1.1.0, tt))) (tt, (tt, (len, tt)))) $
    use0 𝓛 (raw (fact 𝓤 (ChangesAt n k s.now ws.1.1.0 r.answer))) (fact_i 𝓤 _ (emp 𝓤) ok) $ move ! (1 ∷ 0 ∷ []) $ join ! $
    move ! (1 ∷ []) $ nothing ! $ move ! (4 ∷ 0 ∷ []) $ join ! $ nothing ! $ join ! $ nothing ! $ join ! $
    move ! (3 ∷ 0 ∷ 1 ∷ 2 ∷ []) $ group ! 3 $ done !))))))))))))
