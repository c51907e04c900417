-- `kcore_keeper_update` moves the content out of the memory at the place, and the new one in, and hands out the answer.
use Rattle.std.proofs.Common.{[], ◌∷◌, refl, ap, w32}
use Rattle.std.proofs.raw_atomic.Walks.{proved}
use base.Fraction.{full_share}
use base.Logic.{SProp, id⊢, ex, sep, emp, ex_i}
use base.Fml.{fat, ftrue}
use mir.Val.{Val, vint}
use contract.Monad.{fact, fact_i}
use contract.Running.{tables}
use types.Logic.{sem}
use types.Kit.{‵, raw, prop, some, later, ◌⊛◌, ◌$◌, ◌∵◌, !, qed, done, drop, use0, use1, use2, pick, split, join, fjoin, move, regoal, suffices, group, await}
use types.Part.{whole, sub}
use types.Run.{enter, fld, of_opd, load, look, store, stop, assigns, returns, and_then, no_more}
use types.ByLocal.{alloc_all, pass_all, free_all, look_at, get, get_in, through, sets, lands_as}
use denote.Builtin.{u32}
use denote.Exit.{yes}
use denote.Laws.{Is, shows}
use denote.Memory.{part_at}
use denote.Plain.{uint_Makes, uint_vals, uint_Tells}
use denote.RawPtr.{Ptr, ptr_val, RawPtr, block_ptr, lies_at, in_a_block, rawptr_vals, rawptr_Tells}
use denote.Signature.{plain}
use denote.Steps.{nothing, peeks, owned, heard, only}
use denote.Param.{layout}
use denote.Triple.Call.{calls_at}
use denote.Triple.Clauses.{lasts, Lasts}
use denote.Triple.Spec.{triple_of}
use denote.Triple.Table.{framed}
use denote.Triple.Walked.{Stays, walk_of, stay_dropped, Goes-dropped, ends_at}
use borrow.Table.OneValue.{part_out, part_in}
use prog.Wp.{WpFn}
use Rattle.std.specs.contracts.alloc.Global.{the_row as global_row}
use Rattle.std.proofs.alloc.Global.TheLaws.{the_row_laws as global_laws, the_told as global_told}
use Rattle.kc_c.specs.Keeping.{AtPlace, IsUpdatedBy}
use Rattle.kc_c.specs.Updating.{given_update}
use Rattle.kc_c.specs.declared.keeping.Content.{Content}
use Rattle.kc_c.specs.declared.keeping.CallEnd.{CallEnd}
use Rattle.kc_c.specs.contracts.keeping.Content.{the_row}
use Rattle.kc_c.proofs.keeping.Content.TheLaws.{the_row_laws}
use Rattle.kc_c.specs.contracts.answer.CallResult.{the_row as answer_row}
use Rattle.kc_c.proofs.answer.CallResult.TheLaws.{the_row_laws as answer_laws}
use Rattle.kc_c.proofs.Two.{Two, both_tt, two_out}
use Rattle.kc_c.specs.contracts.keeping.update_keeper as g
use Rattle.kc_c.proofs.keeping.update_keeper.Met.{met}
use Rattle.kc_c.specs.contracts.keeper.kcore_keeper_update as f
use Rattle.kc_c.proofs.keeper.kcore_keeper_update.Statement.{statement}
use Rattle.kc_c.proofs.keeper.kcore_keeper_update.Code as code

abbrev stayed : Stays f.ended.signature.params f.ended.kept
stayed = (stay_dropped _ yes, (stay_dropped _ yes, (stay_dropped _ yes, (stay_dropped _ yes, (stay_dropped _ yes, tt)))))

pub kcore_keeper_update_spec : {M : Type 1} → statement M
kcore_keeper_update_spec 𝓤 𝓛 𝓜 𝓡 wired =
    let c = f.clauses 𝓛 𝓜.mem 𝓡.returns in let W = walk_of 𝓛 f.ended stayed c in let 𝓣 = tables 𝓤 𝓛.H 𝓜 𝓡 𝓡.env in
    let number = Goes-dropped 𝓛 0 (plain (λ _. u32)) yes (λ κs x w. refl) in
    proved 𝓛 f.ended stayed c 𝓜 𝓡 (
      Goes-dropped 𝓛 0 (plain (λ _. global_row)) yes (λ κs x w. refl),
      (Goes-dropped 𝓛 0 (plain (λ _. RawPtr)) yes (λ κs x w. refl), (number, (number, (number, tt)))),
    )
    f.Key.name code.function (code.unfolded 𝓤 𝓛.H 𝓜 𝓡 wired)
    (λ κs. ((λ h. global_told.val h ∷ []), (rawptr_vals, (uint_vals w32, (uint_vals w32, (uint_vals w32, tt))))))
    (λ κs. (global_told.tells, (rawptr_Tells, (uint_Tells w32, (uint_Tells w32, (uint_Tells w32, tt)))))) (λ κs qs bounds a n are.
    let h = a.0 in let hv = global_told.val h in let u = a.1.1.0 in let v = a.1.1.1.0 in let add = a.1.1.1.1.0 in
    let fu = are.1.1.0.1 in let fv = are.1.1.1.0.1 in let fa = are.1.1.1.1.0.1 in
    let y : Ptr → W.Ghost = λ p. (
      (
        κs,
        qs,
        bounds,
        (h, (p, (u, (v, (add, tt))))),
        (
          hv ∷ [],
          (
            rawptr_vals p,
            (
              uint_vals w32 u,
              (
                uint_vals w32 v,
                (uint_vals w32 add, tt),
              ),
            ),
          ),
        ),
      ),
      n,
    ) in
    let G = triple_of 𝓛 g.signature (g.spec 𝓛 𝓜.mem 𝓡.returns) in
    let th = ((global_laws.lawful 𝓛).typed h (hv ∷ []) are.0).0 in
    qed 𝓛 ((‵ ftrue ⊛ ‵ (global_row.own_val h (hv ∷ [])) ⊛ ‵ (RawPtr.own_val a.1.0 (rawptr_vals a.1.0))
    ⊛ ‵ (u32.own_val u (uint_vals w32 u)) ⊛ ‵ (u32.own_val v (uint_vals w32 v)) ⊛ ‵ (u32.own_val add (uint_vals w32 add))
    ⊛ ‵ ftrue) ∷ ‵ (lies_at the_row full_share a.1.0 n) ∷ []) ∵
    split ! $ drop ! $ split ! $ move ! (1 ∷ []) $ drop ! $ move ! (1 ∷ []) $
    -- [the content; what the allocator owns]
    in_a_block ! a.1.0 (λ p. lies_at the_row full_share p n) (id⊢ 𝓤 _) (λ b o e.
    regoal ! (λ p. prop (WpFn 𝓤 𝓛.H 𝓣.C 𝓣.Λ code.function (hv ∷ ptr_val p ∷ vint w32 u ∷ vint w32 v ∷ vint w32 add ∷ []) (W.post (y p)))) e refl $
    use1 𝓛 (some (λ (w : Val). ‵ (fat full_share (layout the_row) b o w) ⊛ ‵ (the_row.own_val n (w ∷ [])))) (part_out 𝓛 the_row refl full_share n b o) $
    pick ! (λ w. split ! $ move ! (1 ∷ []) $
    peeks ! the_row (Is the_row) (shows 𝓛 the_row) n (w ∷ []) (λ is.
    let t = ((the_row_laws.lawful 𝓛).typed n (w ∷ []) is).0 in
    enter ! _ _ _ _ _ $ alloc_all !
    (λ l. pass_all ! refl (th, ((tt, tt), ((tt, record { fits = fu }), ((tt, record { fits = fv }), ((tt, record { fits = fa }), tt))))) $
    -- [what the content owns; its cell; what the allocator owns; the locals]
    sets ! (of_opd ! (get ! refl)) refl (tt, tt) $
    sets ! (of_opd ! (load ! (through ! refl (stop !)) (look ! 1 refl))) refl t $
    let z : G.Ghost = (
      (
        κs,
        qs,
        bounds,
        (h, (n, (u, (v, (add, tt))))),
        (
          hv ∷ [],
          (
            w ∷ [],
            (
              uint_vals w32 u,
              (
                uint_vals w32 v,
                (
                  uint_vals w32 add,
                  tt,
                ),
              ),
            ),
          ),
        ),
      ),
      tt,
    ) in
    nothing ! $ owned ! u32 _ (uint_Makes 𝓛 w32) add _ (refl, fa) $ fjoin ! $ owned ! u32 _ (uint_Makes 𝓛 w32) v _ (refl, fv) $ fjoin ! $
    owned ! u32 _ (uint_Makes 𝓛 w32) u _ (refl, fu) $ fjoin ! $ move ! (1 ∷ 0 ∷ []) $ fjoin ! $ move ! (2 ∷ 0 ∷ []) $ fjoin ! $
    nothing ! $ join ! $ nothing ! $ move ! (1 ∷ 0 ∷ []) $ join ! $ use1 𝓛 (raw (G.pre z)) (id⊢ 𝓤 _) $
    calls_at ! (framed 𝓤 𝓛.H 𝓜 (tables 𝓤 𝓛.H 𝓜 𝓡 𝓡.env)) G (met 𝓤 𝓛 𝓜 𝓡 (code.calls-kc_c::keeping::update_keeper 𝓡.env wired)) z
    (and_then ! (get ! refl) (and_then ! (get ! refl) (and_then ! (get ! refl) (and_then ! (get ! refl) (and_then ! (get ! refl) (no_more !)))))) (λ out.
    use1 𝓛 (later (some (λ (r : CallEnd). (‵ ftrue ⊛ ‵ ((Two the_row answer_row).own_val (r.content, (r.answer, tt)) (out ∷ []))) ⊛
    some (λ (ws : Lasts g.ended κs z.0.3). ‵ (lasts g.ended κs z.0.3 ws)
    ⊛ raw (fact 𝓤 (AtPlace (IsUpdatedBy (given_update u v add)) n r.content r.answer)))))) (id⊢ 𝓤 _) $
    await ! tt $ pick ! (λ r. split ! $ move ! (1 ∷ []) $ pick ! (λ ws. split ! $ drop ! $ heard ! _ (λ ok. split ! $ drop ! $
    two_out the_row answer_row r.content r.answer ! refl refl (the_row_laws.lawful 𝓛) (answer_laws.lawful 𝓛) (out ∷ []) (λ w₁ w₂ t₁ t₂ is₂.
    -- [what the content owns; what the answer owns; the cell; the locals]
    lands_as ! (ap only is₂) refl (both_tt _ _ t₁.0 t₂.0, (t₁.1, (t₂.1, tt))) $
    sets ! (of_opd ! (get_in ! (fld ! refl (stop !)) (sub ! 0 refl (whole !)))) refl t₁ $
    sets ! (of_opd ! (get_in ! (fld ! refl (stop !)) (sub ! 1 refl (whole !)))) refl t₂ $
    sets ! (of_opd ! (get ! refl)) refl t₁ $
    assigns ! (of_opd ! (get ! refl)) (through ! refl (stop !)) (store ! 2 refl t₁) $
    sets ! (of_opd ! (get ! refl)) refl t₂ $
    returns ! (look_at ! 0 refl) $ free_all ! refl $
    move ! (2 ∷ 0 ∷ []) $ use2 𝓛 (‵ (part_at the_row full_share r.content b o)) (part_in 𝓛 the_row refl full_share r.content b o w₁) $
    suffices ! _ (ends_at 𝓛 f.ended stayed c (y (block_ptr b o)) w₂ r.answer (tt, (tt, (tt, (tt, (tt, tt))))) (tt, (tt, (tt, (tt, (tt, tt)))))) $
    use0 𝓛 (raw (fact 𝓤 (AtPlace (IsUpdatedBy (given_update u v add)) n r.content r.answer))) (fact_i 𝓤 _ (emp 𝓤) ok) $
    move ! (1 ∷ 0 ∷ []) $ join ! $
    let After : Content → SProp 𝓤 = λ s. sep 𝓤 (sem 𝓛 (lies_at the_row full_share (block_ptr b o) s))
    (fact 𝓤 (AtPlace (IsUpdatedBy (given_update u v add)) n s r.answer)) in
    use1 𝓛 (raw (ex 𝓤 After)) (ex_i 𝓤 After r.content) $
    move ! (1 ∷ []) $ nothing ! $ nothing ! $ join ! $ nothing ! $ join ! $ nothing ! $ join ! $ nothing ! $ join ! $ nothing ! $ join ! $ nothing ! $
    group ! 3 $ done !))))))))))
