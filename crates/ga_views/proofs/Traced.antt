-- A waveform, or the fault behind the session, is what `trace` may write.
use Rattle.std.proofs.Common.{◌≡◌, inl, inr, ℕ, List, Option, Result, Ok, Err, refl, subst, sym}
use Rattle.std.specs.Result.{IsErrAnd}
use Rattle.ga_transcript.specs.Live.{LiveView}
use Rattle.ga_input.specs.declared.fault.ServeError.{ServeError}
use Rattle.ga_input.specs.declared.fault.ServeError.TheVariants.{Memory, Read, Write}
use Rattle.ga_input.specs.declared.loading.Loading.{Loading}
use Rattle.ga_input.specs.Fault.{Answers, FailsRightly}
use Rattle.ga_views.specs.Race.{most_turns}
use Rattle.ga_input.specs.Session.{IsSession}
use Rattle.ga_views.specs.TraceJob.{IsTraceOutput, nodes_named, wave_within}

module _ (loading : Loading) (turns : Option ℕ) (names : Option (List ℕ)) (input : List ℕ)
    (live : LiveView) (opened : IsSession loading input (Ok live)) where
  -- the fault of the names
  names_fail : (fault : ServeError) → FailsRightly (λ right. nodes_named live names ≡ right) fault
      → FailsRightly (IsTraceOutput loading turns names input) fault
  names_fail Memory is = tt
  names_fail Read is = is
  names_fail Write is = is
  names_fail fault is = inr (live, opened, inl (fault, refl, is))

  pub handed_on : {A : Type 0} (view : A → List ℕ) (result : Result A ServeError)
      (fault : ServeError) → IsErrAnd result (λ e. e ≡ fault)
      → FailsRightly (λ right. nodes_named live names ≡ right) fault
      → Answers view (IsTraceOutput loading turns names input) result
  handed_on view (Ok a) fault same is = absurd same
  handed_on view (Err e) fault same is =
      subst (FailsRightly (IsTraceOutput loading turns names input)) (sym same)
      (names_fail fault is)

  -- the waveform, or its fault
  wave_fails : (nodes : List ℕ) → nodes_named live names ≡ Ok nodes → (fault : ServeError)
      → FailsRightly (λ right. wave_within live nodes (most_turns turns) ≡ right) fault
      → FailsRightly (IsTraceOutput loading turns names input) fault
  wave_fails nodes named Memory is = tt
  wave_fails nodes named Read is = is
  wave_fails nodes named Write is = is
  wave_fails nodes named fault is = inr (live, opened, inr (nodes, named, is))

  wave_right : {A : Type 0} (view : A → List ℕ) (nodes : List ℕ) → nodes_named live names ≡ Ok nodes
      → (result : Result A ServeError)
      → Answers view (λ right. wave_within live nodes (most_turns turns) ≡ right) result
      → Answers view (IsTraceOutput loading turns names input) result
  wave_right view nodes named (Ok a) is = inr (live, opened, inr (nodes, named, is))
  wave_right view nodes named (Err fault) is = wave_fails nodes named fault is

  pub traced : {A : Type 0} (view : A → List ℕ) (nodes : List ℕ) (most : ℕ)
      (result : Result A ServeError) → nodes_named live names ≡ Ok nodes
      → most ≡ most_turns turns
      → Answers view (λ right. wave_within live nodes most ≡ right) result
      → Answers view (IsTraceOutput loading turns names input) result
  traced view nodes most result named limit is =
      wave_right view nodes named result
      (subst (λ n. Answers view (λ right. wave_within live nodes n ≡ right) result) limit is)
