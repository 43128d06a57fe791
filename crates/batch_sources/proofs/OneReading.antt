-- The texts of a batch have one reading over a store that tells what it holds.
use Rattle.std.proofs.Common.{◌≡◌, ◌∙◌, ap, sym, subst, refl, ℕ, List, [], ◌∷◌, ◌++◌}
use Rattle.std.specs.Prelude.{Some, Ok, Err}
use Rattle.std.specs.declared.result.Result.{Result}
use Rattle.std.proofs.lemmas.Option.{same_Some}
use Rattle.std.proofs.lemmas.List.{map-append}
use Rattle.fem_text.specs.Outside.{Held}
use Rattle.fem_text.specs.Memory.{Named}
use Rattle.run_words.specs.Choice.{Choice}
use Rattle.run_words.specs.Words.{AskFor}
use Rattle.batch_read.specs.declared.fault.BatchKind.{BatchKind}
use Rattle.batch_read.specs.declared.fault.BatchKind.TheVariants as kinds
use Rattle.batch_read.specs.Batch.{BatchText, BatchFaultAt}
use Rattle.batch_texts.specs.declared.shelf.NameFault.{NameFault}
use Rattle.batch_texts.specs.declared.shelf.NameFault.TheVariants as faults
use Rattle.batch_texts.specs.Shelf.{IsNameFault}
use Rattle.batch_texts.specs.Names.{AreTextsOf, read_names}
use Rattle.batch_sources.specs.declared.ending.BatchRole.{BatchRole}
use Rattle.batch_sources.specs.declared.ending.BatchRole.TheVariants.{Batch, Job}
use Rattle.batch_sources.specs.declared.ending.BatchRefusal.{BatchRefusal}
use Rattle.batch_sources.specs.declared.ending.BatchRefusal.TheVariants.{Text, Count, Size, Absent}
use Rattle.batch_sources.specs.Reads.{AskForAll, job_reads}
use Rattle.batch_sources.specs.Sources.{AreJobs, HasRead, AreSources, IsNextOfJob, StopsAtRead, HasFault}
use Rattle.batch_sources.specs.Laws.{SourcesRead, HaveOneReading}
use Rattle.batch_sources.proofs.Places.{IsReal, one_list_of_texts, found_stands, no_texts, no_stop, one_cause}

-- two places of a list
data Places {A : Type 0} (l m : List A) (x y : A) : Type 0 where
  same : l ≡ m → x ≡ y → Places l m x y
  sooner : (mid : List A) → m ≡ l ++ x ∷ mid → Places l m x y
  later : (mid : List A) → l ≡ m ++ y ∷ mid → Places l m x y

further : {A : Type 0} (l m : List A) (a b x y : A) → a ≡ b → Places l m x y → Places (a ∷ l) (b ∷ m) x y
further l m a b x y e (same f g) = same (ap (λ z. z ∷ l) e ∙ ap (λ list. b ∷ list) f) g
further l m a b x y e (sooner mid f) = sooner mid (ap (λ z. z ∷ m) (sym e) ∙ ap (λ list. a ∷ list) f)
further l m a b x y e (later mid f) = later mid (ap (λ z. z ∷ l) e ∙ ap (λ list. b ∷ list) f)

places : {A : Type 0} (l m : List A) (x y : A) (back other : List A) → l ++ x ∷ back ≡ m ++ y ∷ other → Places l m x y
places [] [] x y back other e = let f : x ≡ y = cc in same refl f
places [] (b ∷ m) x y back other e = let f : b ≡ x = cc in sooner m (ap (λ z. z ∷ m) f)
places (a ∷ l) [] x y back other e = let f : a ≡ y = cc in later l (ap (λ z. z ∷ l) f)
places (a ∷ l) (b ∷ m) x y back other e =
    let f : a ≡ b = cc in
    let g : l ++ x ∷ back ≡ m ++ y ∷ other = cc in
    further l m a b x y f (places l m x y back other g)

abbrev Read : Type 0
Read = Result (List (List (List ℕ)) × Named) BatchRefusal

-- the refusal for a cause, or a fault of the text
abbrev stop_refusal : BatchRole → NameFault → BatchRefusal
stop_refusal role faults.Absent = Absent role
stop_refusal role faults.Size = Size
stop_refusal role faults.Failed = Size
stop_refusal role faults.NoMemory = Size

abbrev line_refusal : BatchKind → ℕ → BatchRefusal
line_refusal kinds.Words line = Text line
line_refusal kinds.Count line = Count line
line_refusal kinds.NoMemory line = Size

module _ (one_choice : (words : List (List ℕ)) (first second : Choice) → AskFor words first → AskFor words second → first ≡ second)
    (one_list : (text : List ℕ) (first second : List (List (List ℕ))) → BatchText text first → BatchText text second → first ≡ second)
    (one_fault : (text : List ℕ) (kind other : BatchKind) (line another : ℕ) → BatchFaultAt text kind line → BatchFaultAt text other another → (kind ≡ other) × (line ≡ another))
    (apart : (text : List ℕ) (jobs : List (List (List ℕ))) (kind : BatchKind) (line : ℕ) → BatchText text jobs → BatchFaultAt text kind line → ⊥) where
  one_list_of_choices : (jobs : List (List (List ℕ))) (a b : List Choice) → AskForAll jobs a → AskForAll jobs b → a ≡ b
  one_list_of_choices [] [] [] h k = refl
  one_list_of_choices [] [] (c ∷ cs) h k = absurd k
  one_list_of_choices [] (c ∷ cs) b h k = absurd h
  one_list_of_choices (words ∷ jobs) [] b h k = absurd h
  one_list_of_choices (words ∷ jobs) (c ∷ cs) [] h k = absurd k
  one_list_of_choices (words ∷ jobs) (c ∷ cs) (d ∷ ds) h k =
      ap (λ z. z ∷ cs) (one_choice words c d h.0.asked k.0.asked) ∙ ap (λ list. d ∷ list) (one_list_of_choices jobs cs ds h.1 k.1)

  module _ (held : Held) (name : List ℕ) where
    -- how the reading ends
    data View (outcome : Read) : Type 0 where
      at_first : (fault : NameFault) → IsReal fault → IsNameFault (Some held) name [] fault → outcome ≡ Err (stop_refusal Batch fault) → View outcome
      at_line : (kind : BatchKind) (line : ℕ) → HasFault (Some held) name kind line → outcome ≡ Err (line_refusal kind line) → View outcome
      at_job : (job : ℕ) (wanted : List ℕ) (before : Named) (fault : NameFault) → IsReal fault → IsNextOfJob (Some held) name job wanted before → IsNameFault (Some held) wanted before fault →
          outcome ≡ Err (stop_refusal (Job job) fault) → View outcome
      whole : (jobs : List (List (List ℕ))) (texts : Named) → AreSources (Some held) name jobs texts → outcome ≡ Ok (jobs, texts) → View outcome

    stop_view : (role : BatchRole) (before : Named) (fault : NameFault) → IsReal fault → StopsAtRead (Some held) name role fault before → View (Err (stop_refusal role fault))
    stop_view Batch before fault real (wanted, next, cause) =
        at_first fault real (subst (λ list. IsNameFault (Some held) name list fault) next.1 (subst (λ n. IsNameFault (Some held) n before fault) next.0 cause)) refl
    stop_view (Job job) before fault real (wanted, next, cause) = at_job job wanted before fault real next cause refl

    view : (outcome : Read) → SourcesRead (Some held) name outcome → View outcome
    view (Ok read) is = whole read.0 read.1 is refl
    view (Err (Text line)) is = at_line kinds.Words line is refl
    view (Err (Count line)) is = at_line kinds.Count line is refl
    view (Err Size) (role, before, stop) = stop_view role before faults.Size tt stop
    view (Err (Absent role)) (before, stop) = stop_view role before faults.Absent tt stop

    -- the batch text is the one that the store holds
    text_stands : (text : List ℕ) (reads : List (ℕ × List ℕ)) (texts : Named) → HasRead (Some held) name text reads texts → held name ≡ Some text
    text_stands text reads texts read = found_stands held texts name text read.texts_are.stand read.own

    one_text : (text other : List ℕ) (reads also : List (ℕ × List ℕ)) (texts these : Named) → HasRead (Some held) name text reads texts → HasRead (Some held) name other also these → text ≡ other
    one_text text other reads also texts these h k = same_Some text other (sym (text_stands text reads texts h) ∙ text_stands other also these k)

    -- it stands where anything was read
    first_or_read : (fault : NameFault) (text : List ℕ) (reads : List (ℕ × List ℕ)) (texts : Named) → IsReal fault → IsNameFault (Some held) name [] fault → HasRead (Some held) name text reads texts → ⊥
    first_or_read fault text reads texts real is read = no_stop held [] (read_names reads) name texts [] fault read.texts_are (no_texts held) is real

    line_or_jobs : (kind : BatchKind) (line : ℕ) (text : List ℕ) (jobs : List (List (List ℕ))) (choices : List Choice) (reads : List (ℕ × List ℕ)) (texts : Named) → HasFault (Some held) name kind line → AreJobs text jobs choices →
        HasRead (Some held) name text reads texts → ⊥
    line_or_jobs kind line text jobs choices reads texts is are read =
        apart text jobs kind line are.jobs_are (subst (λ t. BatchFaultAt t kind line) (one_text is.text text [] reads is.texts texts is.texts_are read) is.fault)

    module _ (text other : List ℕ) (jobs also : List (List (List ℕ))) (choices those : List Choice) (same_text : text ≡ other) (h : AreJobs text jobs choices) (k : AreJobs other also those) where
      one_jobs : jobs ≡ also
      one_jobs = one_list other jobs also (subst (λ t. BatchText t jobs) same_text h.jobs_are) k.jobs_are

      one_reads : job_reads choices ≡ job_reads those
      one_reads = ap job_reads (one_list_of_choices also choices those (subst (λ list. AskForAll list choices) one_jobs h.asks) k.asks)

    -- a read that stops isn't among those that were made
    stop_or_read : (front mid reads : List (ℕ × List ℕ)) (job : ℕ) (wanted text other : List ℕ) (before texts : Named) (fault : NameFault) → reads ≡ front ++ (job, wanted) ∷ mid → IsReal fault →
        HasRead (Some held) name text front before → IsNameFault (Some held) wanted before fault → HasRead (Some held) name other reads texts → ⊥
    stop_or_read front mid reads job wanted text other before texts fault are real some is all =
        no_stop held (name ∷ read_names front) (read_names mid) wanted texts before fault
        (subst (λ names. AreTextsOf (Some held) (name ∷ names) texts) (ap read_names are ∙ map-append (λ (read : ℕ × List ℕ). read.1) front ((job, wanted) ∷ mid)) all.texts_are) some.texts_are is real

    two_stops : (job number : ℕ) (wanted sought : List ℕ) (before those : Named) (fault other : NameFault) → IsReal fault → IsReal other → (a : IsNextOfJob (Some held) name job wanted before) →
        (b : IsNextOfJob (Some held) name number sought those) → IsNameFault (Some held) wanted before fault → IsNameFault (Some held) sought those other →
        Places a.front b.front (job, wanted) (number, sought) → stop_refusal (Job job) fault ≡ stop_refusal (Job number) other
    two_stops job number wanted sought before those fault other real also a b h k (same e f) =
        let jobs : job ≡ number = ap (λ (read : ℕ × List ℕ). read.0) f in
        let names : wanted ≡ sought = ap (λ (read : ℕ × List ℕ). read.1) f in
        let texts : before ≡ those = one_list_of_texts held (name ∷ read_names b.front) before those (subst (λ reads. AreTextsOf (Some held) (name ∷ read_names reads) before) e a.texts_are.texts_are) b.texts_are.texts_are in
        let cause : fault ≡ other = one_cause held sought those fault other (subst (λ list. IsNameFault (Some held) sought list fault) texts (subst (λ n. IsNameFault (Some held) n before fault) names h)) k real also in
        ap (λ n. stop_refusal (Job n) fault) jobs ∙ ap (stop_refusal (Job number)) cause
    two_stops job number wanted sought before those fault other real also a b h k (sooner mid e) = absurd (stop_or_read a.front mid b.front job wanted a.text b.text before those fault e real a.texts_are h b.texts_are)
    two_stops job number wanted sought before those fault other real also a b h k (later mid e) = absurd (stop_or_read b.front mid a.front number sought b.text a.text those before other e also b.texts_are k a.texts_are)

    places_of : (job number : ℕ) (wanted sought : List ℕ) (before those : Named) → (a : IsNextOfJob (Some held) name job wanted before) → (b : IsNextOfJob (Some held) name number sought those) →
        Places a.front b.front (job, wanted) (number, sought)
    places_of job number wanted sought before those a b =
        let text = one_text a.text b.text a.front b.front before those a.texts_are b.texts_are in
        places a.front b.front (job, wanted) (number, sought) a.behind b.behind (sym a.reads_are ∙ one_reads a.text b.text a.jobs b.jobs a.choices b.choices text a.jobs_are b.jobs_are ∙ b.reads_are)

    stop_or_whole : (job : ℕ) (wanted : List ℕ) (before : Named) (fault : NameFault) (jobs : List (List (List ℕ))) (texts : Named) → IsReal fault → IsNextOfJob (Some held) name job wanted before → IsNameFault (Some held) wanted before fault →
        AreSources (Some held) name jobs texts → ⊥
    stop_or_whole job wanted before fault jobs texts real a h b =
        let text = one_text a.text b.text a.front (job_reads b.choices) before texts a.texts_are b.texts_are in
        stop_or_read a.front a.behind (job_reads b.choices) job wanted a.text b.text before texts fault (sym (one_reads a.text b.text a.jobs jobs a.choices b.choices text a.jobs_are b.jobs_are) ∙ a.reads_are) real a.texts_are h b.texts_are

    two_whole : (jobs also : List (List (List ℕ))) (texts those : Named) → AreSources (Some held) name jobs texts → AreSources (Some held) name also those → ◌≡◌ {A = Read} (Ok (jobs, texts)) (Ok (also, those))
    two_whole jobs also texts those a b =
        let text = one_text a.text b.text (job_reads a.choices) (job_reads b.choices) texts those a.texts_are b.texts_are in
        let same_jobs = one_jobs a.text b.text jobs also a.choices b.choices text a.jobs_are b.jobs_are in
        let reads = one_reads a.text b.text jobs also a.choices b.choices text a.jobs_are b.jobs_are in
        let same_texts = one_list_of_texts held (name ∷ read_names (job_reads b.choices)) texts those
        (subst (λ list. AreTextsOf (Some held) (name ∷ read_names list) texts) reads a.texts_are.texts_are) b.texts_are.texts_are in
        λ i. Ok (same_jobs i, same_texts i)

    agree : (a b : Read) → View a → View b → a ≡ b
    agree a b (at_first f r h e) (at_first g s k d) = e ∙ ap (λ fault. Err (stop_refusal Batch fault)) (one_cause held name [] f g h k r s) ∙ sym d
    agree a b (at_first f r h e) (at_line kind line k d) = absurd (first_or_read f k.text [] k.texts r h k.texts_are)
    agree a b (at_first f r h e) (at_job job wanted before g s n k d) = absurd (first_or_read f n.text n.front before r h n.texts_are)
    agree a b (at_first f r h e) (whole jobs texts k d) = absurd (first_or_read f k.text (job_reads k.choices) texts r h k.texts_are)
    agree a b (at_line kind line h e) (at_first g s k d) = absurd (first_or_read g h.text [] h.texts s k h.texts_are)
    agree a b (at_line kind line h e) (at_line other another k d) =
        let text = one_text h.text k.text [] [] h.texts k.texts h.texts_are k.texts_are in
        let is = one_fault k.text kind other line another (subst (λ t. BatchFaultAt t kind line) text h.fault) k.fault in
        e ∙ ap (λ z. Err (line_refusal z line)) is.0 ∙ ap (λ z. Err (line_refusal other z)) is.1 ∙ sym d
    agree a b (at_line kind line h e) (at_job job wanted before g s n k d) = absurd (line_or_jobs kind line n.text n.jobs n.choices n.front before h n.jobs_are n.texts_are)
    agree a b (at_line kind line h e) (whole jobs texts k d) = absurd (line_or_jobs kind line k.text jobs k.choices (job_reads k.choices) texts h k.jobs_are k.texts_are)
    agree a b (at_job job wanted before f r m h e) (at_first g s k d) = absurd (first_or_read g m.text m.front before s k m.texts_are)
    agree a b (at_job job wanted before f r m h e) (at_line kind line k d) = absurd (line_or_jobs kind line m.text m.jobs m.choices m.front before k m.jobs_are m.texts_are)
    agree a b (at_job job wanted before f r m h e) (at_job number sought those g s n k d) =
        e ∙ ap Err (two_stops job number wanted sought before those f g r s m n h k (places_of job number wanted sought before those m n)) ∙ sym d
    agree a b (at_job job wanted before f r m h e) (whole jobs texts k d) = absurd (stop_or_whole job wanted before f jobs texts r m h k)
    agree a b (whole jobs texts h e) (at_first g s k d) = absurd (first_or_read g h.text (job_reads h.choices) texts s k h.texts_are)
    agree a b (whole jobs texts h e) (at_line kind line k d) = absurd (line_or_jobs kind line h.text jobs h.choices (job_reads h.choices) texts k h.jobs_are h.texts_are)
    agree a b (whole jobs texts h e) (at_job number sought those g s n k d) = absurd (stop_or_whole number sought those g jobs texts s n k h)
    agree a b (whole jobs texts h e) (whole also those k d) = e ∙ two_whole jobs also texts those h k ∙ sym d

  pub one_reading_of_sources : HaveOneReading
  one_reading_of_sources held name a b h k = agree held name a b (view held name a h) (view held name b k)
