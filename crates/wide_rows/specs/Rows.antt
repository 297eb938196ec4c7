-- Symbols that only the wide grammar reads, each with its text and its cost. Together the symbols take each production that only
-- this grammar has.
use Rattle.std.specs.Prelude.{List, [], ◌∷◌}
use Rattle.cpp_grammar.proofs.Row.{Row, prints, refers_badly}

unfoldable pub rows_0 : List Row
rows_0 =
    prints "_Z2q7I1AQrQT__XcldtfL0p_1fEEEvS1_" "void q7<A>(A)" 27 ∷
    prints "_Z1fIiEDTcldtfp_onplfp_EET_" "decltype(fp.operator+(fp)) f<int>(int)" 59 ∷
    prints "_Z1fIiQrQiT_P1A_X1xEEvv" "void f<int>()" 22 ∷
    prints "_Z1fIJicEEvDTfrlsszT_E" "void f<int, char>(decltype(((sizeof (int), sizeof (char)) << ...)))" 100 ∷
    prints "_Z1fITpTtTyEJ1AEEvv" "void f<A>()" 23 ∷
    prints "_Z2n3IiEDTgsnwfp0__T_pifp_EES0_Pv" "decltype(::new(fp0) int(fp)) n3<int>(int, void*)" 82 ∷
    prints "_ZN1ACI11BB1xIiEIcEET_" "A::A<char>(char)" 30 ∷
    prints "_ZN1ACI11BB1xIEEi" "A::A(int)" 17 ∷
    prints "_Z1fIJicEEvDTflcmszT_E" "void f<int, char>(decltype((..., (sizeof (int), sizeof (char)))))" 98 ∷
    prints "_Z1fIiEDTplnw_iELi1EEv" "decltype(new int + 1) f<int>()" 47 ∷
    prints "_Z1fIiEDTclsrT_onplEES0_" "decltype(int::operator+()) f<int>(int)" 57 ∷
    prints "_Z1fI1AEDTclsrT_1gspLi1EEEv" "decltype(A::g(1...)) f<A>()" 46 ∷
    prints "_Z1fIiEDTstRKT_ES0_" "decltype(sizeof (int const&)) f<int>(int)" 64 ∷
    prints "_Z1fIiQrqX1xNR1CX1yR1CTiQ1zEEvv" "void f<int>()" 22 ∷
    prints "_Z1fIiEDTptfp_dnT_ES0_" "decltype(fp->~int) f<int>(int)" 51 ∷
    prints "_ZN1AMcviEv" "A::operator int()" 24 ∷
    prints "_ZN1ACI1St1BB1xIiEIcEET_" "A::A<char>(char)" 30 ∷
    prints "_ZN1AcvDk1CEv" "A::operator C auto()" 28 ∷
    prints "_ZN1AF1fB1tEv" "A::f[abi:t]()" 19 ∷
    prints "_ZN1ACI1St1BEi" "A::A(int)" 17 ∷
    prints "_ZN1ACI1N1C1BEIcEET_S3_" "A::A<char>(char, char)" 41 ∷
    prints "_ZN1ACI1N1C1BEIcEEPT_S2_" "A::A<char>(char*, char*)" 47 ∷
    refers_badly "_ZN1ACI1N1C1BEIcEEPT_S1_" 21 ∷
    prints "_Z1fITk2IsIiEiTkS0_IiEcEvT_T0_" "void f<int, char>(int, char)" 50 ∷
    prints "_ZTCN1AM1bE0_1C" "construction vtable for C-in-A::b" 41 ∷
    prints "_Z1fIiEDTilEET_" "decltype({}) f<int>(int)" 39 ∷
    prints "_Z1fIiEDTtiT_ET_" "decltype(typeid (int)) f<int>(int)" 53 ∷
    prints "_ZTC1AB1t0_1BB1u" "construction vtable for B[abi:u]-in-A[abi:t]" 52 ∷
    prints "_Z1fITnDk1CLi1EEvv" "void f<1>()" 20 ∷
    prints "_Z1fIiEDTmm_fp_ET_" "decltype(--fp) f<int>(int)" 42 ∷
    prints "_Z1fIiEDTsr1AE1xET_" "decltype(A::x) f<int>(int)" 43 ∷
    prints "_Z3s15ILi3EEv2InIXquT_miT_Li1EngT_EE" "void s15<3>(In<3 ? 3 - 1 : -3>)" 57 ∷
    prints "_Z1fIiEDTcvOT_Li1EES0_" "decltype((int&&)(1)) f<int>(int)" 54 ∷
    prints "_Z1fIiEDTcvKT_Li1EES0_" "decltype((int const)(1)) f<int>(int)" 58 ∷
    prints "_ZZ1fvEd0_N1AB1xB1yC1Ev" "f()::A[abi:x][abi:y]::A()" 36 ∷
    prints "_Z1gIXquLb1ELi1ELi2EEEvv" "void g<true ? 1 : 2>()" 35 ∷
    prints "_Z1fIiEv1AIXtlT_Li1ELi2EEEE" "void f<int>(A<int{1, 2}>)" 51 ∷
    prints "_ZGTt1fv" "transaction clone for f()" 29 ∷
    prints "_ZGTn1fv" "non-transaction clone for f()" 33 ∷
    prints "_Z1fDF0_" "f(_Float0)" 16 ∷
    prints "_Z1fIiEDTptfp_dnN1A1BEET_S0_" "decltype(fp->~A::B) f<int>(int, A)" 58 ∷
    []

unfoldable pub rows_1 : List Row
rows_1 =
    prints "_Z1fDF16_" "f(_Float16)" 17 ∷
    prints "_Z1fIiEv1AIXaaltT_Li1EgtT_Li2EEE" "void f<int>(A<int < 1 && (int > 2)>)" 60 ∷
    prints "_Z1fIiQrqTN1n1xIT_EEQ1CIT_EEEvT_" "void f<int>(int)" 30 ∷
    prints "_ZN1AF1fEv" "A::f()" 11 ∷
    prints "_Z1fIiEDTnafp_cmfp_fp0__PT_piEEv" "decltype(new[](fp, (fp, fp0)) int*()) f<int>()" 74 ∷
    prints "_ZZ1fiEd_1x" "f(int)::x" 19 ∷
    prints "_ZN1AB1x1fEv" "A[abi:x]::f()" 19 ∷
    prints "_Z1fITnivEvv" "void f<void>()" 23 ∷
    prints "_Z1fIiEDTfpTET_" "decltype(this) f<int>(int)" 41 ∷
    prints "_Z1gZ1fiEd_UlvE_" "g(f(int)::{lambda()#1})" 36 ∷
    prints "_Z1fILi3EEvAT__i" "void f<3>(int [3])" 34 ∷
    prints "_Z1fI1AEvRAT__T_" "void f<A>(A (&)[A])" 39 ∷
    prints "_Z1fIiEDTppfp_ET_" "decltype(fp++) f<int>(int)" 42 ∷
    prints "_Z1fIiEDTfL0p_ET_" "decltype(fp) f<int>(int)" 39 ∷
    prints "_ZN2D1CI5N1n1BEEi" "D1::D1(int)" 19 ∷
    prints "_ZN2D1CI2N1n1BEEi" "D1::D1(int)" 19 ∷
    prints "_Z1fITkSt3abciEvv" "void f<int>()" 22 ∷
    prints "_Z1fITk1AIiE1BEvv" "void f<B>()" 20 ∷
    prints "_Z1fIiQ1CITL__EEvv" "void f<int>()" 22 ∷
    prints "_ZN1AIiEC1IiEET_QntL_ZN1BIT_E1xEE" "A<int>::A<int>(int)" 38 ∷
    prints "_Z1fIiQL_ZN1BIT_E1xEEEvPS2_" "void f<int>(B<int>*)" 40 ∷
    prints "_Z1fIiQL_ZN1BIT_E1gEiEEvPS2_" "void f<int>(B<int>*)" 40 ∷
    prints "_Z1fIiQ1CI1AIXL_ZN1BIT_E1xEEEEEEvS4_" "void f<int>(A<B<int>::x>)" 49 ∷
    prints "_Z1fIiQL_Z1gIT_EvvEEvv" "void f<int>()" 22 ∷
    refers_badly "_Z1fIiQL_ZZN1BIT_E1gEvE1xEEvv" 15 ∷
    prints "_Z1fIiEDTscT_fp_ET_" "decltype(static_cast<int>(fp)) f<int>(int)" 62 ∷
    prints "_Z1fIiEDTptfpT1xET_" "decltype(this->x) f<int>(int)" 46 ∷
    prints "_Z1fIJEEv1AIXsZT_EE" "void f<>(A<sizeof...()>)" 39 ∷
    prints "_Z2v6IiEDTsclfp_ET_" "decltype(static_cast<long>(fp)) v6<int>(int)" 62 ∷
    prints "_Z1fIJicEEv1AIXsZT_EE" "void f<int, char>(A<sizeof...(int, char)>)" 75 ∷
    prints "_Z1fIiEDTixfp_Li0EET_" "decltype(fp[0]) f<int>(int)" 44 ∷
    prints "_Z1fIiEDTlsfp_fp0_ET_" "decltype(fp << fp0) f<int>(int)" 48 ∷
    prints "_Z1fIiEDToofp_fp0_ET_" "decltype(fp || fp0) f<int>(int)" 48 ∷
    prints "_Z1fIiEDTeOfp_fp0_ET_" "decltype(fp ^= fp0) f<int>(int)" 48 ∷
    prints "_Z1fIiEDTeofp_fp0_ET_" "decltype(fp ^ fp0) f<int>(int)" 47 ∷
    prints "_Z1fIiEDTsrDTfp_E1xET_" "decltype(decltype(fp)::x) f<int>(int)" 55 ∷
    prints "_Z1fIicEv1AITL0_0_IdEE" "void f<int, char>(A<char<double>>)" 58 ∷
    prints "_Z1fIiEv1AIXsrDTfp_E1xEE" "void f<int>(A<decltype(fp)::x>)" 50 ∷
    prints "_Z1fIiEDTclfp_spfp0_EET_" "decltype(fp(fp0...)) f<int>(int)" 53 ∷
    prints "_Z1fIJicEEvDTfrplT_EDpT_" "void f<int, char>(decltype(((int, char) + ...)), int, char)" 105 ∷
    prints "_Z2n8IiEDTnw_T_ilfp_EES0_" "decltype(new int{fp}) n8<int>(int)" 59 ∷
    prints "_Z2f1IJiiEEDTflplfp_EDpT_" "decltype((... + (fp...))) f1<int, int>(int, int)" 83 ∷
    prints "_Z3nt3IXtl3StrtlA4_cLc120ELc121ELc122EEEEEiv" "int nt3<Str{char [4]{(char)120, (char)121, (char)122}}>()" 90 ∷
    []

unfoldable pub rows_2 : List Row
rows_2 =
    prints "_ZN2kj7evalNowIZNS_9WebSocket6pumpToERS1_EUlvE_EEDTcl17reducePromiseTypecvPNS_1_11ReturnType_IT_vE4TypeELDnELb0EEEOS6_.cold" "decltype(reducePromiseType((kj::_::ReturnType_<kj::WebSocket::pumpTo(kj::WebSocket&)::{lambda()#1}, void>::Type*)(nullptr), false)) kj::evalNow<kj::WebSocket::pumpTo(kj::WebSocket&)::{lambda()#1}>(kj::WebSocket::pumpTo(kj::WebSocket&)::{lambda()#1}&&) (.cold)" 350 ∷
    prints "_Z1fDk1C" "f(C auto)" 16 ∷
    prints "_ZGTtnam" "transaction clone for operator new[](unsigned long)" 58 ∷
    prints "_ZTIDF16_" "typeinfo for _Float16" 25 ∷
    prints "_ZTSDF32_" "typeinfo name for _Float32" 30 ∷
    prints "_ZN1AcviEv" "A::operator int()" 24 ∷
    prints "_ZTC1A0_1B" "construction vtable for B-in-A" 36 ∷
    prints "_ZTCSd0_Si" "construction vtable for std::istream-in-std::iostream" 59 ∷
    prints "_ZTIPDF32x" "typeinfo for _Float32x*" 29 ∷
    prints "_Z1f1AB1xS_" "f(A[abi:x], A[abi:x])" 32 ∷
    prints "_Z1fITyiEvv" "void f<int>()" 22 ∷
    prints "_Z1fPDk1CS_" "f(C auto*, C auto*)" 34 ∷
    prints "_ZNK1AcvbEv" "A::operator bool() const" 31 ∷
    prints "_Z1fB5cxx11v" "f[abi:cxx11]()" 18 ∷
    prints "_Z1fIiEDk1Cv" "C auto f<int>()" 25 ∷
    prints "_ZN1AB1xC1Ev" "A[abi:x]::A()" 19 ∷
    prints "_ZN1AC1B1xEv" "A::A[abi:x]()" 19 ∷
    prints "_ZN1ACI11BEi" "A::A(int)" 17 ∷
    prints "_ZN1ACI1SsEi" "A::A(int)" 17 ∷
    prints "_ZN1ACI21BEi" "A::A(int)" 17 ∷
    prints "_ZN1ACI41BEi" "A::A(int)" 17 ∷
    prints "_ZN1ACI51BEi" "A::A(int)" 17 ∷
    prints "_ZN1AcvPKcEv" "A::operator char const*()" 36 ∷
    prints "_Z1fIJTyiEEvv" "void f<int>()" 25 ∷
    prints "_Z1fITyJiEEvv" "void f<int>()" 25 ∷
    prints "_Z1fRKDK1CS0_" "f(C decltype(auto) const&, C decltype(auto) const&)" 70 ∷
    prints "_Z1fSt1AB1xS_" "f(std::A[abi:x], std::A[abi:x])" 44 ∷
    prints "_ZN1ACI11BES_" "A::A(A)" 15 ∷
    prints "_ZNK1ACI11BEv" "A::A() const" 17 ∷
    prints "_Z1fITpTyJEEvv" "void f<>()" 17 ∷
    prints "_Z1fITtTyEiEvv" "void f<int>()" 22 ∷
    prints "_Z1fIXLi3EEEvv" "void f<3>()" 20 ∷
    prints "_ZN1A1BCI1S_Ei" "A::B::B(int)" 22 ∷
    prints "_ZTAXtl1PLi1EEE" "template parameter object for P{1}" 43 ∷
    prints "_Z1fILf3f800000EEvv" "void f<(float)[3f800000]>()" 39 ∷
    prints "_Z1fILDF16_3c00EEvv" "void f<(_Float16)[3c00]>()" 38 ∷
    prints "_Z1fILKi1EEvv" "void f<(int const)1>()" 35 ∷
    prints "_Z1fILVKi1EEvv" "void f<(int const volatile)1>()" 44 ∷
    prints "_Z1fDB7_" "f(_BitInt(7))" 20 ∷
    prints "_Z1fDU64_" "f(unsigned _BitInt(64))" 30 ∷
    prints "_Z1fDyJicELi0E" "f((int, char)[0])" 31 ∷
    prints "_Z1fIJiEEDyT_Li0Ev" "(int)[0] f<int>()" 36 ∷
    prints "_Z1fIJLi1EEEDTsyT_Li0EEv" "decltype((1)[0]) f<1>()" 43 ∷
    prints "_Z1fIXtrEEvv" "void f<throw>()" 24 ∷
    prints "_Z1fINDtLi1EE1xEEvv" "void f<decltype(1)::x>()" 36 ∷
    prints "_Z1fIXtl1Udi1aLi0EEEEvv" "void f<U{.a = 0}>()" 36 ∷
    prints "_Z1fIXtl1UdxLi2Edi1aLi0EEEEvv" "void f<U{[2].a = 0}>()" 41 ∷
    prints "_Z1fIiEDTTL0__ET_" "decltype(int) f<int>(int)" 41 ∷
    prints "_ZNH1H1fERS_i" "H::f(this H&, int)" 31 ∷
    prints "_ZGR1a_" "reference temporary #0 for a" 31 ∷
    prints "_ZGRZ1fvE1a_" "reference temporary #0 for f()::a" 40 ∷
    prints "_ZNW1M1A1fEv" "A@M::f()" 16 ∷
    prints "_ZGIW1aWP1b" "initializer for module a:b" 33 ∷
    prints "_ZN1nW1M1fENS_S0_1AE" "n::f@M(n::A@M)" 28 ∷
    prints "_ZUei1Ev" "{enum:int{E}}()" 20 ∷
    prints "_ZDC1a1bE" "[a, b]" 15 ∷
    prints "_ZDCL1aL1bE" "[a, b]" 15 ∷
    prints "_ZN1nDC1a1bEE" "n::[a, b]" 20 ∷
    prints "_Z1fIiEvu7__decayIT_E" "void f<int>(__decay<int>)" 43 ∷
    prints "_Z1fIiEvu7__decayIT_ES1_" "void f<int>(__decay<int>, __decay<int>)" 66 ∷
    []
